-- What a DELETE by WHERE does to one table.
use Rattle.std.proofs.Common.{◌≡◌, inl, inr, ℕ, ℤ, List, [], ◌∷◌, map, filter, not, Bool, true, false, cond, ◌&&◌, ◌||◌, Ordering, Less, Equal, Greater, slice_get, if◌then◌else◌, Some, Ok, IsTrue, is_eq, refl, sym, ap, subst, subst₂, ◌∙◌}
use Rattle.std.specs.List.{AllByRecursion, list_all, list_any}
use Rattle.std.specs.List.Sorted.{IsPermutation}
use Rattle.std.proofs.lemmas.List.Sorted.{IsPermutation-sym}
use Rattle.std.proofs.lemmas.Bool.{cases_Bool, false_from_ne_true}
use Rattle.std.proofs.lemmas.Cmp.{tied_itself}
use Rattle.sqlite.specs.declared.types.Value.{Value}
use Rattle.sqlite.specs.declared.types.Value.TheVariants.{Null, Int}
use Rattle.sqlite.specs.Order.{Row, value_cmp}
use Rattle.sqlite_value.proofs.OrderLemmas.{value_cmp_total}
use Rattle.sqlite.specs.Tree.{IsTable, rowid, has_rowid, without_rowid}
use Rattle.sqlite_trees.specs.View.{is_int}
use Rattle.sqlite_trees.proofs.ListLemmas.{all-permutation, all_weaker, all_of, filter_same, filter_all, filter-map, all-filter, ascending-filter, map-map}
use Rattle.sqlite_rules.specs.Lists.{Has}
use Rattle.sqlite_rules.proofs.ListLemmas.{all_has, all_from, has_filtered, has_kept, some_has, some_from}
use Rattle.sqlite_rules.proofs.TableLemmas.{int_is}
use Rattle.sqlite_rules.proofs.ProbeLemmas.{mapped_has}
use Rattle.sqlite_rules.proofs.PlaceLemmas.{tied_same}
use Rattle.sqlite.specs.Edit.{id_in, without_all}
use Rattle.sqlite.specs.Term.{Term, col, holds}
use Rattle.sqlite.specs.Table.{Table}
use Rattle.sqlite.specs.Schema.{Schema}
use Rattle.sqlite.specs.Program.{overlay}
use Rattle.sqlite.specs.Edit.{edit_of}
use Rattle.sqlite.specs.Rowids.TheVariants.{Given}
use Rattle.sqlite.specs.Command.TheVariants.{Delete}
use Rattle.sqlite.specs.Listing.{understood}
use Rattle.sqlite.specs.Rows.{Written}
use Rattle.sqlite.specs.Effect.{Database}
use Rattle.sqlite.specs.State.{State, Shows, Executes}
use Rattle.sqlite.proofs.Callers.{IsPlain, command_of, one_step}
use Rattle.sqlite_schema.specs.declared.program.Program.{Program}
use Rattle.sqlite_schema.specs.declared.schema.Keys.TheVariants.{Enforced}
use Rattle.sqlite_schema.specs.declared.schema.Among.TheVariants.{All}
use Rattle.sqlite_schema.specs.Rules.{Refers}
use Rattle.sqlite_rules.specs.Calls.{ids_of}
use Rattle.sqlite_rules.specs.Edit.{Applies}
use Rattle.sqlite_rules.specs.Action.{Writes, works}
use Rattle.std.proofs.lemmas.List.{map-id}
use Rattle.fr_tables.specs.Tables.{AreKept}
use Rattle.fr_tables.proofs.Steps.{went, same_value}
use Rattle.fr_tables.proofs.Written.{IsStill}
use Rattle.fr_tables.proofs.RunLemmas.{deletes}
use Rattle.fr_tables.proofs.ReadLemmas.{scan, scanned, as_they_are}

pub has_permuted : {X : Type 0} (xs ys : List X) (x : X) → IsPermutation xs ys → Has ys x → Has xs x
has_permuted xs ys x same h = all_has (Has xs) ys x (all-permutation (Has xs) xs ys same (all_from (Has xs) xs (λ y k. k))) h

pub filtered_twice : (p q : Row → Bool) (rows : List Row) → filter p (filter q rows) ≡ filter (λ r. q r && p r) rows
filtered_twice p q [] = refl
filtered_twice p q (r ∷ rows) =
    elim (q r) as (λ b. filter p (cond b (r ∷ filter q rows) (filter q rows)) ≡ cond (b && p r) (r ∷ filter (λ r. q r && p r) rows) (filter (λ r. q r && p r) rows))
    [ true ↦ ap (λ l. cond (p r) (r ∷ l) l) (filtered_twice p q rows) | false ↦ filtered_twice p q rows ]

pub not_either : (a b : Bool) → (not a && not b) ≡ not (a || b)
not_either true b = refl
not_either false b = refl

-- what is left has none of the rowids
pub left_of : (ids : List ℤ) (rows : List Row) → without_all rows ids ≡ filter (λ r. not (list_any (λ id. has_rowid id r) ids)) rows
left_of [] rows = sym (filter_all _ rows (all_of _ (λ r. refl) rows))
left_of (id ∷ ids) rows =
    left_of ids (without_rowid id rows) ∙ filtered_twice _ _ rows ∙ filter_same _ _ rows (all_of _ (λ r. not_either (has_rowid id r) (list_any (λ id. has_rowid id r) ids)) rows)

pub mapped_from : {X Y : Type 0} (f : X → Y) (xs : List X) (y : Y) → Has (map f xs) y → (x : X) × Has xs x × (y ≡ f x)
mapped_from f [] y h = absurd h
mapped_from f (x ∷ xs) y (inl same) = (x, inl refl, same)
mapped_from f (x ∷ xs) y (inr later) = let found = mapped_from f xs y later in (found.0, inr found.1, found.2)

pub equal_is : (o : Ordering) → is_eq o ≡ true → o ≡ Equal
equal_is Less h = absurd (cc)
equal_is Equal h = refl
equal_is Greater h = absurd (cc)

pub own_id : (rows : List Row) (r : Row) → AllByRecursion (λ r. IsTrue (is_int (rowid r))) rows → Has rows r → rowid r ≡ Int (id_in (rowid r))
own_id rows r keyed h = int_is (rowid r) (all_has _ rows r keyed h)

pub has_own_id : (rows : List Row) (r : Row) → AllByRecursion (λ r. IsTrue (is_int (rowid r))) rows → Has rows r → has_rowid (id_in (rowid r)) r ≡ true
has_own_id rows r keyed h = ap (λ v. is_eq (value_cmp (rowid r) v)) (sym (own_id rows r keyed h)) ∙ ap is_eq (tied_itself value_cmp_total (rowid r))

-- a row that has the rowid of another is that row
pub same_id : (rows : List Row) (r other : Row) (id : ℤ) → IsTable rows → Has rows r → Has rows other → has_rowid id r ≡ true → rowid other ≡ Int id → r ≡ other
same_id rows r other id up h k is own = tied_same rows r other up h k (ap (value_cmp (rowid r)) own ∙ equal_is _ is)

pub erased : (p : Row → Bool) (rows found : List Row) → IsTable rows → AllByRecursion (λ r. IsTrue (is_int (rowid r))) rows → IsPermutation (filter p rows) found
    → without_all rows (map (λ r. id_in (rowid r)) found) ≡ filter (λ r. not (p r)) rows
erased p rows found up keyed same =
    left_of (map (λ r. id_in (rowid r)) found) rows ∙ filter_same _ _ rows (all_from _ rows (λ r h. ap not (either r h)))
  where
    own : (r : Row) → Has rows r → rowid r ≡ Int (id_in (rowid r))
    own r h = int_is (rowid r) (all_has _ rows r keyed h)

    itself : (r : Row) → Has rows r → has_rowid (id_in (rowid r)) r ≡ true
    itself r h = ap (λ v. is_eq (value_cmp (rowid r) v)) (sym (own r h)) ∙ ap is_eq (tied_itself value_cmp_total (rowid r))

    either : (r : Row) → Has rows r → list_any (λ id. has_rowid id r) (map (λ r. id_in (rowid r)) found) ≡ p r
    either r h = elim (cases_Bool (p r)) [
      | inl holds_p ↦
          let there = has_permuted found (filter p rows) r (IsPermutation-sym _ _ same) (has_kept p rows r h holds_p) in
          some_from (λ id. has_rowid id r) _ (id_in (rowid r)) (mapped_has (λ r. id_in (rowid r)) found r there) (itself r h) ∙ sym holds_p
      | inr fails_p ↦ false_from_ne_true _ (λ any.
          let id = some_has (λ id. has_rowid id r) _ any in
          let from = mapped_from (λ r. id_in (rowid r)) found id.0 id.1 in
          let other = has_filtered p rows from.0 (has_permuted (filter p rows) found from.0 same from.1) in
          let tie : value_cmp (rowid r) (rowid from.0) ≡ Equal =
          ap (value_cmp (rowid r)) (own from.0 other.0 ∙ ap Int (sym from.2)) ∙ equal_is _ id.2 in
          let one = tied_same rows r from.0 up h other.0 tie in
          let holds_p : p r ≡ true = ap p one ∙ other.1 in
          cc) ∙ sym fails_p
    ]

-- rows are taken out by a test that is one of their values
pub filtered_rows : {X : Type 0} (columns : X → Row) (read : Row → X) (p : Row → Bool) (passes : X → Bool) (rows : List Row) → ((r : Row) → Has rows r → p r ≡ passes (read r))
    → AreKept columns read rows → AreKept columns read (filter (λ r. not (p r)) rows) × (map read (filter (λ r. not (p r)) rows) ≡ filter (λ x. not (passes x)) (map read rows))
filtered_rows columns read p passes rows tested kept =
    let alike : filter (λ r. not (p r)) rows ≡ filter (λ r. not (passes (read r))) rows = filter_same _ _ rows (all_from _ rows (λ r h. ap not (tested r h))) in
    rw alike (
      record { rise = ascending-filter _ _ rows kept.rise; numbered = all-filter _ _ rows kept.numbered; typed = all-filter _ _ rows kept.typed },
      sym (filter-map (λ x. not (passes x)) read rows),
    )

-- the rows that pass are gone, and the others are as they were
pub erased_rows : {X : Type 0} (columns : X → Row) (read : Row → X) (p : Row → Bool) (passes : X → Bool) (rows found : List Row) → ((y : Value × X) → p (y.0 ∷ columns y.1) ≡ passes y.1)
    → AreKept columns read rows → IsPermutation (filter p rows) found
    → AreKept columns read (without_all rows (map (λ r. id_in (rowid r)) found)) × (map read (without_all rows (map (λ r. id_in (rowid r)) found)) ≡ filter (λ x. not (passes x)) (map read rows))
erased_rows columns read p passes rows found tested kept same =
    let left = erased p rows found kept.rise kept.numbered same in
    let alike : filter (λ r. not (p r)) rows ≡ filter (λ r. not (passes (read r))) rows =
    filter_same _ _ rows (all_weaker _ _ (λ r (typed : r ≡ rowid r ∷ columns (read r)). ap not (ap p typed ∙ tested (rowid r, read r))) rows kept.typed) in
    rw (left, alike) (
      record { rise = ascending-filter _ _ rows kept.rise; numbered = all-filter _ _ rows kept.numbered; typed = all-filter _ _ rows kept.typed },
      sym (filter-map (λ x. not (passes x)) read rows),
    )

-- ---- the statement

-- the text deletes the rows that pass these tests
pub record Deletes (schema : Schema) (table : Table) (at : ℕ) (text : List ℕ) (tests : List Term) : Type 0 where
  pub is : command_of (understood schema text) ≡ Delete at (record { lets = []; body = scan table.tree tests [] (col 1 0 ∷ []) })
  pub plain : IsPlain (understood schema text)

-- the rows with these rowids, which pass the tests, are taken out, and then the actions are carried out
pub record HasDeleted (schema : Schema) (table : Table) (tests : List Term) (params : Row) (old new : State) : Type 0 where
  pub still : IsStill schema new.now
  pub found : List Row
  pub same : IsPermutation (filter (λ r. list_all (holds (params ∷ r ∷ [])) tests) (old.now.trees table.tree)) found
  pub writes : Writes schema Enforced old.now.trees (edit_of old.now.trees table (map (λ r. id_in (rowid r)) found) Given 0 []) (Ok new.now.trees)
  pub shown : Shows old new new.now (if old.in_transaction then old.committed else new.now) old.in_transaction
  pub refers : Refers All schema new.now.trees

pub deleted : (schema : Schema) (table : Table) (at : ℕ) → slice_get schema.tables at ≡ Some table → (text : List ℕ) (tests : List Term) → Deletes schema table at text tests → (params : Row) (old new : State) (count : ℕ) → old.now.schema ≡ schema
    → Executes text params old new (Ok count) → HasDeleted schema table tests params old new
deleted schema table at place text tests d params old new count has h =
    let db = old.now.trees in
    let body = scan table.tree tests [] (col 1 0 ∷ []) in
    let q : Program = record { lets = []; body = body } in
    let ran = deletes schema table text params d.plain old new count has h at place q d.is in
    let queried = went ran.wrote in
    let edited = went queried.2 in
    let scans = scanned [] table.tree tests [] (col 1 0 ∷ []) params (λ (r : Row). r) (db table.tree) (overlay db []) queried.0 (as_they_are db table.tree ∙ sym (map-id (db table.tree))) (queried.1.answer Null) in
    let ids : ids_of queried.0 ≡ map (λ r. id_in (rowid r)) scans.found = ap ids_of scans.shown ∙ map-map _ _ scans.found in
    let trees : ran.written.trees ≡ edited.0 = ap (λ (w : Written). w.trees) (same_value edited.2) in
    let now : new.now.trees ≡ edited.0 = ap (λ (d : Database). d.trees) ran.now ∙ trees in
    record {
      still = ran.still;
      found = scans.found;
      same = scans.same;
      writes = subst₂ (λ gone t. Writes schema Enforced db (edit_of db table gone Given 0 []) (Ok t)) ids (sym now) edited.1;
      shown = ran.shown;
      refers = subst (λ (d : Database). Refers All schema d.trees) (sym ran.now) ran.refers;
    }

-- the same where no foreign key acts
pub erases : (schema : Schema) (table : Table) (tests : List Term) (params : Row) (old new : State) (d : HasDeleted schema table tests params old new)
    → ((olds : List Row) → works schema Enforced 0 table.tree olds [] ≡ [])
    → Applies schema Enforced old.now.trees (edit_of old.now.trees table (map (λ r. id_in (rowid r)) d.found) Given 0 []) new.now.trees
erases schema table tests params old new d idle = one_step schema Enforced old.now.trees new.now.trees _ (idle _) d.writes
