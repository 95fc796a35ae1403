-- One step of a merge, behind what was told before.
use Rattle.std.proofs.Common.{◌≡◌, Bool, List, [], ◌∷◌, ◌++◌, length, map, refl, sym, ap, ◌∙◌, Ordering, Less, Equal, Greater, append_assoc, arith, subst}
use Rattle.std.specs.FinMap.Entries.{by_order}
use Rattle.fr_base.specs.Merging.{come, gone, met, merge, put_in}
use Rattle.fr_base.specs.declared.answer.DifferenceRow.{DifferenceRow}
use Rattle.fr_base.specs.declared.answer.SeenRow.{SeenRow}
use Rattle.fr_world.specs.Appending.{AppendsSome}
use Rattle.fr_world.proofs.AppendingLaws.{some-first}

-- a list of no length
pub none_left : {X : Type 0} (list : List X) → length list ≡ 0 → list ≡ []
none_left [] e = refl
none_left (x ∷ xs) e = absurd (omega (arith, e))

module _ {X : Type 0} (compare : X → X → Ordering) (same : X → X → Bool) (told : X → SeenRow) (x : X) (rest : List X → List DifferenceRow) where
  abbrev put : List X → List DifferenceRow
  put list = put_in compare same told x rest list

  put-step : (y : X) (ys : List X) (r : Ordering) → compare x y ≡ r →
      put (y ∷ ys) ≡ by_order r (gone compare same told x ∷ rest (y ∷ ys)) (met compare same told x y ++ rest ys) (come compare same told y ∷ put ys)
  unfolding put_in
  put-step y ys r e = ap (λ r. by_order r (gone compare same told x ∷ rest (y ∷ ys)) (met compare same told x y ++ rest ys) (come compare same told y ∷ put ys)) e

  module _ (rows after : List DifferenceRow) (list : List X) where
    -- a row of the list comes first
    pub went-on : (y : X) (ys : List X) → list ≡ y ∷ ys → compare x y ≡ Greater → after ≡ rows ++ come compare same told y ∷ [] → after ++ put ys ≡ rows ++ put list
    went-on y ys is greater told_now =
        ap (λ rs. rs ++ put ys) told_now
        ∙ append_assoc rows (come compare same told y ∷ []) (put ys)
        ∙ ap (λ rs. rows ++ rs) (sym (ap put is ∙ put-step y ys Greater greater))

    -- a row of the list has the same key
    pub met-there : (y : X) (ys : List X) → list ≡ y ∷ ys → compare x y ≡ Equal → after ≡ rows ++ met compare same told x y → after ++ rest ys ≡ rows ++ put list
    met-there y ys is tie told_now =
        ap (λ rs. rs ++ rest ys) told_now
        ∙ append_assoc rows (met compare same told x y) (rest ys)
        ∙ ap (λ rs. rows ++ rs) (sym (ap put is ∙ put-step y ys Equal tie))

    -- of what is told of these two, some was
    pub met-refused : (y : X) (ys : List X) → list ≡ y ∷ ys → compare x y ≡ Equal → AppendsSome (met compare same told x y) rows after → AppendsSome (put list) rows after
    met-refused y ys is tie some =
        subst (λ rs. AppendsSome rs rows after) (sym (ap put is ∙ put-step y ys Equal tie)) (some-first (met compare same told x y) (rest ys) rows after some)

    -- the row comes first
    pub came-first : (y : X) (ys : List X) → list ≡ y ∷ ys → compare x y ≡ Less → after ≡ rows ++ gone compare same told x ∷ [] → after ++ rest list ≡ rows ++ put list
    came-first y ys is less told_now =
        ap (λ rs. rs ++ rest list) told_now
        ∙ append_assoc rows (gone compare same told x ∷ []) (rest list)
        ∙ ap (λ rs. rows ++ gone compare same told x ∷ rest rs) is
        ∙ ap (λ rs. rows ++ rs) (sym (ap put is ∙ put-step y ys Less less))

    -- nothing is left of the list
    pub came-last : list ≡ [] → after ≡ rows ++ gone compare same told x ∷ [] → after ++ rest list ≡ rows ++ put list
    unfolding put_in
    came-last is told_now =
        ap (λ rs. rs ++ rest list) told_now
        ∙ append_assoc rows (gone compare same told x ∷ []) (rest list)
        ∙ (λ i. rows ++ gone compare same told x ∷ rest (is i))
        ∙ ap (λ l. rows ++ put l) (sym is)

module _ {X : Type 0} (compare : X → X → Ordering) (same : X → X → Bool) (told : X → SeenRow) where
  -- the merge goes on behind the row
  pub went-behind : (olds rest : List X) (x : X) (left : List X) → olds ≡ x ∷ rest → put_in compare same told x (merge compare same told rest) left ≡ merge compare same told olds left
  unfolding merge
  went-behind olds rest x left is = sym (ap (λ os. merge compare same told os left) is)

  -- what is left of the one list is new
  pub new-left : (olds left : List X) → olds ≡ [] → merge compare same told olds left ≡ map (come compare same told) left
  unfolding merge
  new-left olds left is = ap (λ os. merge compare same told os left) is
