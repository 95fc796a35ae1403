-- A merge of rows is that of their keys and values: rows that stand in two tables tell in what these differ.
use Rattle.std.proofs.Common.{◌≡◌, Bool, true, false, List, [], ◌∷◌, ◌++◌, map, sym, ap, ◌∙◌, refl}
use Rattle.std.specs.FinMap.Entries.{by_order}
use Rattle.fr_base.specs.Tables.{Order, Table}
use Rattle.fr_base.specs.Differences.{between}
use Rattle.fr_base.specs.Merging.{come, met, merge, put_in}
use Rattle.fr_base.specs.declared.answer.DifferenceRow.{DifferenceRow}
use Rattle.fr_base.specs.declared.answer.SeenRow.{SeenRow}
use Rattle.fr_base.proofs.MergeLaws.{between-merge}
use Rattle.fr_world.specs.KeyedRows.{by_key, same_at}

module _ {X K V : Type 0} (o : Order K) (same : V → V → Bool) (told : K × V → SeenRow) (entry : X → K × V) where
  abbrev rows_walk : List X → List X → List DifferenceRow
  rows_walk xs ys = merge (by_key o entry) (same_at same entry) (λ x. told (entry x)) xs ys

  abbrev entries_walk : List (K × V) → List (K × V) → List DifferenceRow
  entries_walk es fs = merge (λ x y. o.compare x.0 y.0) (λ x y. same x.1 y.1) told es fs

  put-map : (x : X) (rest : List X → List DifferenceRow) (after : List (K × V) → List DifferenceRow) → ((ys : List X) → rest ys ≡ after (map entry ys)) →
      (ys : List X) → put_in (by_key o entry) (same_at same entry) (λ x. told (entry x)) x rest ys ≡ put_in (λ x y. o.compare x.0 y.0) (λ x y. same x.1 y.1) told (entry x) after (map entry ys)
  unfolding put_in met
  put-map x rest after alike [] = ap (λ ds. record { is_new = false; row = told (entry x) } ∷ ds) (alike [])
  put-map x rest after alike (y ∷ ys) = λ i.
      by_order (o.compare (entry x).0 (entry y).0)
      (record { is_new = false; row = told (entry x) } ∷ alike (y ∷ ys) i)
      (met (λ x y. o.compare x.0 y.0) (λ x y. same x.1 y.1) told (entry x) (entry y) ++ alike ys i)
      (record { is_new = true; row = told (entry y) } ∷ put-map x rest after alike ys i)

  come-map : (ys : List X) → map (come (by_key o entry) (same_at same entry) (λ x. told (entry x))) ys ≡ map (come (λ x y. o.compare x.0 y.0) (λ x y. same x.1 y.1) told) (map entry ys)
  come-map [] = refl
  come-map (y ∷ ys) = ap (λ ds. record { is_new = true; row = told (entry y) } ∷ ds) (come-map ys)

  merge-map : (xs ys : List X) → rows_walk xs ys ≡ entries_walk (map entry xs) (map entry ys)
  unfolding merge
  merge-map [] ys = come-map ys
  merge-map (x ∷ xs) ys = put-map x (rows_walk xs) (entries_walk (map entry xs)) (merge-map xs) ys

  -- rows whose keys and values stand in two tables tell in what these differ
  pub merge-between : (t u : Table o V) (xs ys : List X) → map entry xs ≡ t.rows → map entry ys ≡ u.rows → rows_walk xs ys ≡ between same told t u
  merge-between t u xs ys is other = merge-map xs ys ∙ (λ i. entries_walk (is i) (other i)) ∙ sym (between-merge o same told t u)
