-- Merge: two lists of rows in the order of their keys, the older and the newer one, gone through
-- side by side. A row that only one of them has is told, by key. At one key what is gone comes
-- before what is new.
use Rattle.std.specs.Prelude.{Bool, true, false, List, [], ◌∷◌, ◌++◌, map, if◌then◌else◌}
use Rattle.std.specs.declared.cmp.Ordering.{Ordering}
use Rattle.std.specs.FinMap.Entries.{by_order}
use Rattle.fr_base.specs.declared.answer.DifferenceRow.{DifferenceRow}
use Rattle.fr_base.specs.declared.answer.SeenRow.{SeenRow}

module _ {X : Type 0} (compare : X → X → Ordering) (same : X → X → Bool) (told : X → SeenRow) where
  -- a row of the older list that the newer one has not
  abbrev pub gone : X → DifferenceRow
  gone x = record { is_new = false; row = told x }

  -- a row of the newer list that the older one has not
  abbrev pub come : X → DifferenceRow
  come x = record { is_new = true; row = told x }

  -- two rows of one key
  unfoldable pub met : X → X → List DifferenceRow
  met old new = if same old new then [] else gone old ∷ come new ∷ []

  -- the rows of the newer list gone through with this row of the older list and then with what
  -- follows it
  unfoldable pub put_in : X → (List X → List DifferenceRow) → List X → List DifferenceRow
  put_in old rest [] = gone old ∷ rest []
  put_in old rest (new ∷ news) =
      by_order (compare old new) (gone old ∷ rest (new ∷ news)) (met old new ++ rest news) (come new ∷ put_in old rest news)

  -- the rows of both lists gone through
  unfoldable pub merge : List X → List X → List DifferenceRow
  unfolding put_in
  merge [] news = map come news
  merge (old ∷ olds) news = put_in old (merge olds) news
