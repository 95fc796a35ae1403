-- What an INSERT of a table's own rows under another key makes of its values.
use Rattle.std.proofs.Common.{◌≡◌, ◌++◌, ℕ, List, [], ◌∷◌, map, filter, Bool, sym, ap, subst, ◌∙◌}
use Rattle.std.specs.List.{list_all}
use Rattle.std.proofs.lemmas.List.Sorted.{IsPermutation-map}
use Rattle.sqlite.specs.declared.types.Value.{Value}
use Rattle.sqlite.specs.declared.types.Value.TheVariants.{Null}
use Rattle.sqlite.specs.Order.{Row}
use Rattle.sqlite.specs.Cast.{cast_row}
use Rattle.sqlite.specs.Term.{Term, holds, eval_all}
use Rattle.sqlite.specs.Rowids.TheVariants.{Chosen}
use Rattle.sqlite_rules.specs.Edit.{numbered, put_all}
use Rattle.sqlite_trees.proofs.ListLemmas.{filter_same, all_of, filter-map, map-map}
use Rattle.fr_tables.specs.Schema.{Layout, layout_of, register_schema}
use Rattle.fr_tables.specs.Tables.{AreKept}
use Rattle.fr_tables.specs.Changes.{Copies}
use Rattle.fr_tables.proofs.TableOf.{TableOf, Does, does, without_count}
use Rattle.fr_tables.proofs.InsertLemmas.{PutsRows, puts_rows, uncounted_place}
use Rattle.fr_tables.proofs.KeptLemmas.{put_all_next}
use Rattle.fr_tables.proofs.ReadLemmas.{stored_as, known, all_known, map_alike}

module _ {X : Type 0} {columns : X → Row} {read : Row → X} (k : TableOf columns read) where
  -- the text adds for each row that passes the one that it is made into
  pub record CopiesBy (text : List ℕ) (params : Row) (passes : X → Bool) (into : X → X) : Type 0 where
    pub tests : List Term
    pub project : List Term
    pub is : (l : Layout) → PutsRows (register_schema l) (k.table l) (k.at l) text params (k.table l).tree tests project
    pub tested : (p : Value × X) → list_all (holds (params ∷ stored_as columns p ∷ [])) tests ≡ passes p.1
    pub gives : (l : Layout) (p : Value × X) → cast_row (without_count (k.table l)) (eval_all project (params ∷ stored_as columns p ∷ [])) ≡ Null ∷ columns (into p.1)

  -- so these are added, in some order
  pub makes_copies : {text : List ℕ} {params : Row} {passes : X → Bool} {into : X → X} → CopiesBy text params passes into
      → Does text params (Copies (λ t. map into (filter passes (k.rows t))) (λ xs t. k.put (k.rows t ++ xs) t))
  makes_copies {text} {params} {passes} {into} d = does text params _ (λ old new count was h.
      let l = layout_of old.now.trees in
      let it = without_count (k.table l) in
      let rows = old.now.trees it.tree in
      let kept = k.kept old.now was in
      let pairs = map (known read) rows in
      let value = λ (p : Value × X). p.1 in
      let copy = λ (p : Value × X). into p.1 in
      let did = puts_rows (register_schema l) (k.table l) (k.at l) (uncounted_place k l) text params it.tree d.tests d.project (d.is l) old new count was.schema h (stored_as columns) pairs
      (all_known columns read rows kept.typed) in
      let found = did.scans.found in
      let sources : map (λ s. cast_row it s) did.rows ≡ map (λ x. Null ∷ columns x) (map copy found) =
      ap (map (λ s. cast_row it s)) did.scans.shown ∙ map-map _ _ found ∙ map_alike _ _ (d.gives l) found ∙ sym (map-map (λ x. Null ∷ columns x) copy found) in
      let put = put_all_next columns read rows (map copy found) k.again kept in
      let rows_are : new.now.trees it.tree ≡ put_all rows (numbered Chosen rows (map (λ x. Null ∷ columns x) (map copy found))) =
      did.applies.rows ∙ ap (λ news. put_all rows (numbered Chosen rows news)) sources in
      let passed : filter (λ p. list_all (holds (params ∷ stored_as columns p ∷ [])) d.tests) pairs ≡ filter (λ p. passes p.1) pairs = filter_same _ _ pairs (all_of _ d.tested pairs) in
      let values : map into (filter passes (map read rows)) ≡ map copy (filter (λ p. passes p.1) pairs) =
      ap (λ xs. map into (filter passes xs)) (sym (map-map value (known read) rows)) ∙ ap (map into) (filter-map passes value pairs) ∙ map-map into value _ in
      record {
        copies = map copy found;
        same = rw (k.are old.now.trees, values) (IsPermutation-map copy _ _ (rw passed at did.scans.same));
        added = k.made old new was (λ xs. xs ++ map copy found) (record { still = did.still; others = did.applies.tables; shown = did.shown })
            (record { kept = subst (AreKept columns read) (sym rows_are) put.0; values_are = ap (map read) rows_are ∙ put.1 });
      })
