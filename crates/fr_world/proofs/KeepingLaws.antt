-- What wishes keep, one after the other.
use Rattle.std.proofs.Common.{◌≡◌, ◌∙◌, Bool, true, false, not, ◌&&◌, ◌||◌, cond, List, [], ◌∷◌, ◌++◌, find, map, Option, Some, None, refl, sym, ap, append_assoc, append-nil}
use Rattle.std.specs.List.{cons_option, filter_map, list_any}
use Rattle.std.specs.Ordering.{is_eq}
use Rattle.fr_base.specs.Book as book
use Rattle.fr_base.specs.KeptPlaces.{is_as_wished, is_kept, keep, kept_for, placements_in}
use Rattle.fr_base.specs.Keys.{owned, placement_order}
use Rattle.fr_base.specs.Names.{same_text}
use Rattle.fr_base.specs.Tables.{Table, get}
use Rattle.fr_base.specs.Turns.{filled_by, places_given, with_place}
use Rattle.fr_base.specs.declared.name.Name.{Name}
use Rattle.fr_base.specs.declared.placement.Placement.{Placement}
use Rattle.fr_base.specs.declared.proposal.Given.{Given}
use Rattle.fr_base.specs.declared.wish.Asked.{Asked}
use Rattle.fr_base.specs.declared.wish.Wish.{Wish}
use Rattle.fr_world.specs.Plans.{is_kept_by}

-- ---- what is kept

abbrev keeps : Name → Placement → Name × Placement → Bool
keeps f q k = same_text k.0 f && is_eq (placement_order.compare k.1 q)

kept-one : (f : Name) (q : Placement) (a : Asked) (place : Option Placement) (rest : Bool) (xs : List (Name × Placement)) → rest ≡ list_any (keeps f q) xs →
    (is_kept_by f q (record { asked = a; place = place }) || rest) ≡ list_any (keeps f q) (cons_option (filled_by (record { asked = a; place = place })) xs)
kept-one f q a None rest xs e = e
kept-one f q a (Some r) rest xs e = ap (λ b. keeps f q (a.wish.frame, r) || b) e

pub kept-any : (given : List Given) (f : Name) (q : Placement) → list_any (is_kept_by f q) given ≡ is_kept (places_given given) f q
kept-any [] f q = refl
kept-any (g ∷ given) f q = kept-one f q g.asked g.place (list_any (is_kept_by f q) given) (places_given given) (kept-any given f q)

-- the placement that stands first among those that are left
abbrev pub is_left : List Given → Wish → Placement → Bool
is_left given wish q = is_as_wished wish q && not (is_kept (places_given given) wish.frame q)

pub left-first : (given : List Given) (wish : Wish) (q : Placement) (rest : List Placement) → is_as_wished wish q ≡ true → is_kept (places_given given) wish.frame q ≡ false → find (is_left given wish) (q ∷ rest) ≡ Some q
left-first given wish q rest as_wished free = rw (as_wished, free) refl

pub left-kept : (given : List Given) (wish : Wish) (q : Placement) (rest : List Placement) → is_kept (places_given given) wish.frame q ≡ true → find (is_left given wish) (q ∷ rest) ≡ find (is_left given wish) rest
left-kept given wish q rest kept =
    let none : is_left given wish q ≡ false = elim (is_as_wished wish q) as (λ b. b && not (is_kept (places_given given) wish.frame q) ≡ false) [ true ↦ ap not kept | false ↦ refl ] in
    rw none refl

pub left-other : (given : List Given) (wish : Wish) (q : Placement) (rest : List Placement) → is_as_wished wish q ≡ false → find (is_left given wish) (q ∷ rest) ≡ find (is_left given wish) rest
left-other given wish q rest other = rw other refl

-- ---- wishes in turn

with-one : (given : List Given) (a : Asked) (place : Option Placement) → places_given (given ++ record { asked = a; place = place } ∷ []) ≡ with_place (places_given given) a.wish.frame place
with-one [] a None = refl
with-one [] a (Some q) = refl
with-one (g ∷ given) a None = after (filled_by g) (places_given (given ++ record { asked = a; place = None } ∷ [])) (places_given given) (with-one given a None)
  where
    after : (o : Option (Name × Placement)) (xs ys : List (Name × Placement)) → xs ≡ ys → cons_option o xs ≡ cons_option o ys
    after o xs ys e = ap (cons_option o) e
with-one (g ∷ given) a (Some q) = after (filled_by g) (places_given given) ((a.wish.frame, q) ∷ []) (with-one given a (Some q))
  where
    after : (o : Option (Name × Placement)) (ys zs : List (Name × Placement)) → places_given (given ++ record { asked = a; place = Some q } ∷ []) ≡ ys ++ zs → cons_option o (places_given (given ++ record { asked = a; place = Some q } ∷ [])) ≡ cons_option o ys ++ zs
    after None ys zs e = e
    after (Some x) ys zs e = ap (λ l. x ∷ l) e

module _ (s : Name) (frames : Table owned book.Frame) where
  pub keep-more : (before : List Given) (a : Asked) (place : Option Placement) (rest left : List Asked) → left ≡ a ∷ rest → place ≡ kept_for (places_given before) a.wish (get frames (s, a.wish.frame)) →
      (before ++ record { asked = a; place = place } ∷ []) ++ keep s frames (places_given (before ++ record { asked = a; place = place } ∷ [])) rest ≡ before ++ keep s frames (places_given before) left
  unfolding keep
  keep-more before a place rest left e is =
      append_assoc before (record { asked = a; place = place } ∷ []) (keep s frames (places_given (before ++ record { asked = a; place = place } ∷ [])) rest)
      ∙ ap (λ kept. before ++ record { asked = a; place = place } ∷ keep s frames kept rest) (with-one before a place)
      ∙ ap (λ p. before ++ record { asked = a; place = p } ∷ keep s frames (with_place (places_given before) a.wish.frame p) rest) is
      ∙ ap (λ l. before ++ keep s frames (places_given before) l) (sym e)

  pub keep-end : (before : List Given) (left : List Asked) → left ≡ [] → before ++ keep s frames (places_given before) left ≡ before
  unfolding keep
  keep-end before left e = ap (λ l. before ++ keep s frames (places_given before) l) e ∙ append-nil before
