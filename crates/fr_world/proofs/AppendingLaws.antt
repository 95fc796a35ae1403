-- How far a list has grown: what begins it, where rows were appended one after another.
use Rattle.std.proofs.Common.{◌≡◌, ◌∙◌, ◌++◌, ℕ, List, [], Result, Ok, Err, refl, sym, ap, subst, append_assoc, append-nil, drop, map, take}
use Rattle.std.specs.Prelude.{OnErr}
use Rattle.std.proofs.lemmas.List.{map-append, take-append-drop}
use Rattle.fr_world.specs.Appending.{AppendsSome, Begins}

module _ {X : Type 0} where
  pub Begins-itself : (rows : List X) → Begins rows rows
  Begins-itself rows = ([], sym (append-nil rows))

  pub Begins-append : (rows more : List X) → Begins rows (rows ++ more)
  Begins-append rows more = (more, refl)

  pub Begins-trans : (a b c : List X) → Begins a b → Begins b c → Begins a c
  Begins-trans a b c h k = (h.0 ++ k.0, k.1 ∙ ap (λ front. front ++ k.0) h.1 ∙ append_assoc a h.0 k.0)

  -- none was appended
  pub none-appended : (rows old new : List X) → new ≡ old → AppendsSome rows old new
  none-appended rows old new is = subst (AppendsSome rows old) (sym is) (Begins-itself old, Begins-append old rows)

  -- some of the first of them were
  pub some-first : (first more old new : List X) → AppendsSome first old new → AppendsSome (first ++ more) old new
  some-first first more old new some =
      (some.0, subst (Begins new) (append_assoc old first more) (Begins-trans new (old ++ first) ((old ++ first) ++ more) some.1 (Begins-append (old ++ first) more)))

  -- some of those that were left were
  pub some-later : (rows left old mid new : List X) → Begins old mid → mid ++ left ≡ old ++ rows → AppendsSome left mid new → AppendsSome rows old new
  some-later rows left old mid new grown whole some = (Begins-trans old mid new grown some.0, subst (Begins new) whole some.1)

-- what is so in any case is so on an error
pub on_error : {A E P : Type 0} (r : Result A E) → P → OnErr r P
on_error (Ok x) p = tt
on_error (Err e) p = p

-- one after another was appended, and not the next
pub some-mapped : {A X : Type 0} (f : A → X) (items : List A) (i : ℕ) (old mid new : List X) → mid ≡ old ++ map f (take i items) → new ≡ mid → AppendsSome (map f items) old new
some-mapped f items i old mid new so_far is =
    let whole : mid ++ map f (drop i items) ≡ old ++ map f items =
    ap (λ front. front ++ map f (drop i items)) so_far ∙ append_assoc old (map f (take i items)) (map f (drop i items))
    ∙ ap (λ rows. old ++ rows) (sym (map-append f (take i items) (drop i items)) ∙ ap (map f) (take-append-drop i items)) in
    some-later (map f items) (map f (drop i items)) old mid new (map f (take i items), so_far) whole (none-appended (map f (drop i items)) mid new is)
