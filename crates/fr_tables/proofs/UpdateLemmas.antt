-- What an UPDATE by WHERE does to one table, where no foreign key acts.
use Rattle.std.proofs.Common.{◌≡◌, inl, inr, ℕ, List, [], ◌∷◌, length, map, filter, drop, not, cond, Bool, true, false, slice_get, if◌then◌else◌, Some, Ok, IsTrue, Less, refl, sym, ap, ap₂, subst, subst₂, ◌∙◌}
use Rattle.std.specs.List.{AllByRecursion, list_all}
use Rattle.std.specs.List.Sorted.{IsPermutation}
use Rattle.std.proofs.lemmas.List.Sorted.{IsPermutation-sym}
use Rattle.std.specs.Ordering.{ordering_reverse}
use Rattle.std.proofs.lemmas.Bool.{cases_Bool, not-true}
use Rattle.sqlite.specs.declared.types.Value.TheVariants.{Null}
use Rattle.sqlite.specs.Order.{Row, value_cmp}
use Rattle.sqlite_value.proofs.OrderLemmas.{value_cmp_total}
use Rattle.sqlite.specs.Tree.{IsTable, IsAscending, rowid, put_row}
use Rattle.sqlite_trees.specs.View.{is_int}
use Rattle.sqlite_trees.proofs.ListLemmas.{ascending-map, ascending-filter, ascending_weaker, map-map}
use Rattle.sqlite_trees.proofs.TreeLemmas.{IsTable-put_row}
use Rattle.sqlite_rules.specs.Lists.{Has}
use Rattle.sqlite_rules.specs.Edit.{put_all, are_fresh}
use Rattle.sqlite_rules.proofs.ListLemmas.{all_has, has_filtered, has_kept}
use Rattle.sqlite_rules.proofs.ProbeLemmas.{mapped_has}
use Rattle.sqlite_rules.proofs.TableLemmas.{put_all_has, put_all_keeps, put_all_adds}
use Rattle.sqlite.specs.Edit.{id_in, without_all}
use Rattle.sqlite.specs.Term.{Term, col, holds, eval_all}
use Rattle.sqlite.specs.Table.{Table}
use Rattle.sqlite.specs.Schema.{Schema}
use Rattle.sqlite.specs.Program.{overlay}
use Rattle.sqlite.specs.Edit.{edit_of}
use Rattle.sqlite.specs.Rowids.TheVariants.{Given}
use Rattle.sqlite.specs.Command.TheVariants.{Update}
use Rattle.sqlite.specs.Listing.{understood}
use Rattle.sqlite.specs.State.{State, Shows, Executes}
use Rattle.sqlite.proofs.Callers.{IsPlain, command_of, one_step}
use Rattle.sqlite_schema.specs.declared.program.Program.{Program}
use Rattle.sqlite_schema.specs.declared.schema.Keys.TheVariants.{Enforced}
use Rattle.sqlite_schema.specs.declared.schema.Among.TheVariants.{All}
use Rattle.sqlite_schema.specs.Rules.{Refers}
use Rattle.sqlite_rules.specs.Edit.{Applies}
use Rattle.sqlite_rules.specs.Action.{works}
use Rattle.std.proofs.lemmas.List.{map-id, length-map}
use Rattle.fr_tables.proofs.Steps.{went, same_value}
use Rattle.sqlite.specs.Cast.{cast_row}
use Rattle.sqlite.specs.Rows.{Written}
use Rattle.sqlite.specs.Effect.{Database}
use Rattle.sqlite_rules.specs.Calls.{ids_of}
use Rattle.sqlite_rules.specs.Edit.{Edit, numbered, taken_by}
use Rattle.sqlite_rules.specs.Action.{Writes}
use Rattle.sqlite_rules.proofs.PlaceLemmas.{given}
use Rattle.fr_tables.proofs.Written.{IsStill}
use Rattle.fr_tables.proofs.RunLemmas.{updates}
use Rattle.fr_tables.proofs.ReadLemmas.{scan, scanned, as_they_are}
use Rattle.fr_tables.proofs.DeleteLemmas.{erased, has_permuted, mapped_from}

never_both : (a b : Row) → value_cmp (rowid a) (rowid b) ≡ Less → value_cmp (rowid b) (rowid a) ≡ Less → ⊥
never_both a b p q = let e = value_cmp_total.antisymm (rowid a) (rowid b) ∙ ap ordering_reverse q in cc

never_itself : (a : Row) → value_cmp (rowid a) (rowid a) ≡ Less → ⊥
never_itself a p = never_both a a p p

-- two tables with the same rows are one
same_rows : (xs ys : List Row) → IsTable xs → IsTable ys → ((r : Row) → Has xs r → Has ys r) → ((r : Row) → Has ys r → Has xs r) → xs ≡ ys
same_rows [] [] p q a b = refl
same_rows [] (y ∷ ys) p q a b = absurd (b y (inl refl))
same_rows (x ∷ xs) [] p q a b = absurd (a x (inl refl))
same_rows (x ∷ xs) (y ∷ ys) p q a b = ap₂ (λ r rs. r ∷ rs) first (same_rows xs ys p.1 q.1 (rest xs ys x y p q a first) (rest ys xs y x q p b (sym first)))
  where
    first : x ≡ y
    first = elim (a x (inl refl)) [
      | inl same ↦ same
      | inr later ↦ elim (b y (inl refl)) [
        | inl same ↦ sym same
        | inr other ↦ absurd (never_both x y (all_has _ xs y p.0 other) (all_has _ ys x q.0 later))
      ]
    ]

    rest : (xs ys : List Row) (x y : Row) → IsTable (x ∷ xs) → IsTable (y ∷ ys) → ((r : Row) → Has (x ∷ xs) r → Has (y ∷ ys) r) → x ≡ y → (r : Row) → Has xs r → Has ys r
    rest xs ys x y p q a same r h = elim (a r (inr h)) [
      | inl is ↦ absurd (never_itself x (subst (λ z. value_cmp (rowid x) (rowid z) ≡ Less) (is ∙ sym same) (all_has _ xs r p.0 h)))
      | inr later ↦ later
    ]

table_put : (news rows : List Row) → IsTable rows → IsTable (put_all rows news)
table_put [] rows up = up
table_put (new ∷ news) rows up = table_put news (put_row new rows) (IsTable-put_row new rows up)

abbrev without_found : List Row → List Row → List Row
without_found rows found = without_all rows (map (λ r. id_in (rowid r)) found)

abbrev pub turned : (Row → Bool) → (Row → Row) → Row → Row
turned p f r = cond (p r) (f r) r

-- rows that are put in place of those that pass stand where those stood
pub replaced : (p : Row → Bool) (f : Row → Row) (rows found : List Row) → IsTable rows → AllByRecursion (λ r. IsTrue (is_int (rowid r))) rows → ((r : Row) → rowid (f r) ≡ rowid r) → IsPermutation (filter p rows) found
    → are_fresh (without_all rows (map (λ r. id_in (rowid r)) found)) (map f found) ≡ true
    → put_all (without_all rows (map (λ r. id_in (rowid r)) found)) (map f found) ≡ map (turned p f) rows
replaced p f rows found up keyed same_id same fresh =
    same_rows _ _ (table_put (map f found) (without_found rows found) (subst IsTable (sym erased_are) (ascending-filter _ _ rows up))) (ascending-map _ (turned p f) rows rising) one two
  where
    erased_are : without_all rows (map (λ r. id_in (rowid r)) found) ≡ filter (λ r. not (p r)) rows
    erased_are = erased p rows found up keyed same

    own : (r : Row) → rowid ((turned p f) r) ≡ rowid r
    own r = elim (p r) as (λ b. rowid (cond b (f r) r) ≡ rowid r) [ true ↦ same_id r | false ↦ refl ]

    rising : IsAscending (λ a b. value_cmp (rowid ((turned p f) a)) (rowid ((turned p f) b)) ≡ Less) rows
    rising = ascending_weaker _ _ (λ a b less. ap₂ value_cmp (own a) (own b) ∙ less) rows up

    one : (r : Row) → Has (put_all (without_found rows found) (map f found)) r → Has (map (turned p f) rows) r
    one r h = elim (put_all_has (map f found) (without_found rows found) r h) [
      | inl new ↦
          let from = mapped_from f found r new in
          let there = has_filtered p rows from.0 (has_permuted (filter p rows) found from.0 same from.1) in
          let is : (turned p f) from.0 ≡ r = rw there.1 (sym from.2) in
          subst (Has (map (turned p f) rows)) is (mapped_has (turned p f) rows from.0 there.0)
      | inr old ↦
          let there = has_filtered (λ r. not (p r)) rows r (subst (λ rs. Has rs r) erased_are old) in
          let fails : p r ≡ false = not-true (p r) there.1 in
          let is : (turned p f) r ≡ r = rw fails in
          subst (Has (map (turned p f) rows)) is (mapped_has (turned p f) rows r there.0)
    ]

    two : (r : Row) → Has (map (turned p f) rows) r → Has (put_all (without_found rows found) (map f found)) r
    two r h =
        let from = mapped_from (turned p f) rows r h in
        elim (cases_Bool (p from.0)) [
          | inl passes ↦
              let there = has_permuted found (filter p rows) from.0 (IsPermutation-sym _ _ same) (has_kept p rows from.0 from.1 passes) in
              let is : f from.0 ≡ r = sym (from.2 ∙ rw passes refl) in
              subst (Has (put_all (without_found rows found) (map f found))) is (put_all_adds (map f found) (without_found rows found) (f from.0) fresh (mapped_has f found from.0 there))
          | inr fails ↦
              let there : Has (without_found rows found) from.0 = subst (λ rs. Has rs from.0) (sym erased_are) (has_kept (λ r. not (p r)) rows from.0 from.1 (ap not fails)) in
              let is : from.0 ≡ r = sym (from.2 ∙ rw fails refl) in
              subst (Has (put_all (without_found rows found) (map f found))) is (put_all_keeps (map f found) (without_found rows found) from.0 fresh there)
        ]

-- ---- the statement

-- the text gives the rows that pass these tests other columns; the query shows the rowid twice, and then the columns
pub record UpdatesBy (schema : Schema) (table : Table) (at : ℕ) (text : List ℕ) (tests : List Term) (columns : List Term) : Type 0 where
  pub is : command_of (understood schema text) ≡ Update at (record { lets = []; body = scan table.tree tests [] (col 1 0 ∷ col 1 0 ∷ columns) })
  pub plain : IsPlain (understood schema text)

-- the row that is put in place of the row
abbrev pub renewed : Table → List Term → Row → Row → Row
renewed table columns params r = cast_row table (rowid r ∷ eval_all columns (params ∷ r ∷ []))

abbrev pub edit_by : Table → List Term → Row → List Row → Edit
edit_by table columns params found = record { table = table; gone = map (λ r. id_in (rowid r)) found; news = map (renewed table columns params) found }

pub record HasUpdated (schema : Schema) (table : Table) (tests : List Term) (columns : List Term) (params : Row) (old new : State) : Type 0 where
  pub still : IsStill schema new.now
  pub found : List Row
  pub same : IsPermutation (filter (λ r. list_all (holds (params ∷ r ∷ [])) tests) (old.now.trees table.tree)) found
  pub applies : Applies schema Enforced old.now.trees (edit_by table columns params found) new.now.trees
  pub shown : Shows old new new.now (if old.in_transaction then old.committed else new.now) old.in_transaction
  pub refers : Refers All schema new.now.trees

pub updated : (schema : Schema) (table : Table) (at : ℕ) → slice_get schema.tables at ≡ Some table
    → ((olds news : List Row) → length olds ≡ length news → works schema Enforced 0 table.tree olds news ≡ [])
    → (text : List ℕ) (tests columns : List Term) → UpdatesBy schema table at text tests columns → (params : Row) (old new : State) (count : ℕ) → old.now.schema ≡ schema
    → Executes text params old new (Ok count) → HasUpdated schema table tests columns params old new
updated schema table at place idle text tests columns d params old new count has h =
    let db = old.now.trees in
    let q : Program = record { lets = []; body = scan table.tree tests [] (col 1 0 ∷ col 1 0 ∷ columns) } in
    let ran = updates schema table text params d.plain old new count has h at place q d.is in
    let queried = went ran.wrote in
    let edited = went queried.2 in
    let scans = scanned [] table.tree tests [] (col 1 0 ∷ col 1 0 ∷ columns) params (λ (r : Row). r) (db table.tree) (overlay db []) queried.0 (as_they_are db table.tree ∙ sym (map-id (db table.tree))) (queried.1.answer Null) in
    let found = scans.found in
    let ids : ids_of queried.0 ≡ map (λ r. id_in (rowid r)) found = ap ids_of scans.shown ∙ map-map _ _ found in
    let news : (rows : List Row) → numbered Given rows (map (λ s. cast_row table (drop 1 s)) queried.0) ≡ map (renewed table columns params) found =
    λ rows. given rows _ ∙ ap (map (λ s. cast_row table (drop 1 s))) scans.shown ∙ map-map _ _ found in
    let edit : edit_of db table (ids_of queried.0) Given 1 queried.0 ≡ edit_by table columns params found =
    ap₂ (λ gone rows. record { table = table; gone = gone; news = rows }) ids (news (without_all (db table.tree) (ids_of queried.0))) in
    let trees : ran.written.trees ≡ edited.0 = ap (λ (w : Written). w.trees) (same_value edited.2) in
    let now : new.now.trees ≡ edited.0 = ap (λ (d : Database). d.trees) ran.now ∙ trees in
    let writes : Writes schema Enforced db (edit_by table columns params found) (Ok new.now.trees) = subst₂ (λ e t. Writes schema Enforced db e (Ok t)) edit (sym now) edited.1 in
    let none = idle (taken_by db (edit_by table columns params found)) (map (renewed table columns params) found) (simp length-map) in
    record {
      still = ran.still;
      found = found;
      same = scans.same;
      applies = one_step schema Enforced db new.now.trees (edit_by table columns params found) none writes;
      shown = ran.shown;
      refers = subst (λ (d : Database). Refers All schema d.trees) (sym ran.now) ran.refers;
    }
