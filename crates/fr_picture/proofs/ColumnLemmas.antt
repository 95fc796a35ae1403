-- Columns in order, and one more.
use Rattle.std.proofs.Common.{◌≡◌, ℕ, ◌+◌, ◌<◌, List, None, [], ◌∷◌, ◌++◌, length, get_or, take, map, refl, sym, ap, ◌∙◌, subst}
use Rattle.std.specs.List.{All}
use Rattle.std.proofs.lemmas.List.{map-append, take_more}
use Rattle.std.proofs.lemmas.List.Elements.{All-push}
use Rattle.fr_picture.specs.Places.{AreInOrder, IsBehind, OpensFirst}
use Rattle.fr_picture.specs.declared.drawing.columns.Place.{Place}
use Rattle.fr_picture.specs.declared.drawing.marks.Shows.{Shows}
use Rattle.fr_picture.specs.declared.drawing.marks.Shows.TheVariants.{Nothing}

-- where the last column ends, or what is before the columns
unfoldable pub end_of : ℕ → List Place → ℕ
end_of at [] = at
end_of at (p ∷ columns) = end_of (p.x + p.width) columns

pub end_of-none : (at : ℕ) → end_of at [] ≡ at
unfolding end_of
end_of-none at = refl

end_of-push : (at : ℕ) (columns : List Place) (q : Place) → end_of at (columns ++ q ∷ []) ≡ q.x + q.width
unfolding end_of
end_of-push at [] q = refl
end_of-push at (p ∷ columns) q = end_of-push (p.x + p.width) columns q

in_order-push : (end at : ℕ) (columns : List Place) (q : Place) → AreInOrder end at columns → IsBehind end (end_of at columns) q → AreInOrder end at (columns ++ q ∷ [])
unfolding end_of
in_order-push end at [] q h behind = (behind, tt)
in_order-push end at (p ∷ columns) q h behind = (h.0, in_order-push end (p.x + p.width) columns q h.1 behind)

-- a loop's step: the columns so far, and one more
pub last_more : (at : ℕ) (columns new : List Place) (q : Place) → new ≡ columns ++ q ∷ [] → end_of at new ≡ q.x + q.width
last_more at columns new q after = ap (end_of at) after ∙ end_of-push at columns q

pub order_more : (end at : ℕ) (columns new : List Place) (q : Place) (last : ℕ) → new ≡ columns ++ q ∷ [] → end_of at columns ≡ last → IsBehind end last q → AreInOrder end at columns
    → AreInOrder end at new
order_more end at columns new q last after ends behind h =
    subst (AreInOrder end at) (sym after) (in_order-push end at columns q h (subst (λ n. IsBehind end n q) (sym ends) behind))

pub shown_more : (shown : List Shows) (i : ℕ) (d : Shows) (columns new : List Place) (q : Place) → i < length shown → new ≡ columns ++ q ∷ [] → q.shows ≡ get_or shown i d
    → map (λ p. p.shows) columns ≡ take i shown → map (λ p. p.shows) new ≡ take (i + 1) shown
shown_more shown i d columns new q small after this before =
    ap (map (λ p. p.shows)) after ∙ map-append (λ p. p.shows) columns (q ∷ []) ∙ ap (λ ss. ss ++ q.shows ∷ []) before
    ∙ ap (λ s. take i shown ++ s ∷ []) this ∙ sym (take_more shown i d small)

-- before the first column that opens a part each shows nothing; where none opens one, this is so
abbrev pub Until : Type 0 → List Place → Type 0
Until T [] = T
Until T (p ∷ columns) = p.opens ≡ None → (p.shows ≡ Nothing) × Until T columns

until-push : (T U : Type 0) (columns : List Place) (q : Place) → (T → q.opens ≡ None → (q.shows ≡ Nothing) × U) → Until T columns → Until U (columns ++ q ∷ [])
until-push T U [] q own h = own h
until-push T U (p ∷ columns) q own h = λ shut. ((h shut).0, until-push T U columns q own (h shut).1)

pub opened_more : (T U : Type 0) (columns new : List Place) (q : Place) → new ≡ columns ++ q ∷ [] → (T → q.opens ≡ None → (q.shows ≡ Nothing) × U) → Until T columns → Until U new
opened_more T U columns new q after own h = subst (Until U) (sym after) (until-push T U columns q own h)

pub opened_first : (T : Type 0) (columns : List Place) → Until T columns → OpensFirst columns
opened_first T [] h = tt
opened_first T (p ∷ columns) h = λ shut. ((h shut).0, opened_first T columns (h shut).1)

pub all_more : (P : Place → Type 0) (columns new : List Place) (q : Place) → new ≡ columns ++ q ∷ [] → All P columns → P q → All P new
all_more P columns new q after h here = subst (All P) (sym after) (All-push P columns q h here)
