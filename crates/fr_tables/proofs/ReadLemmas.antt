-- What a SELECT over one table shows.
use Rattle.std.proofs.Common.{◌≡◌, ◌-◌, ◌^◌, nat_le, slice_get, unwrap_or, if◌then◌else◌, ℕ, pos, negsuc, List, [], ◌∷◌, ◌++◌, map, filter, flat_map, cond, Bool, true, false, None, is_lt, get_or, ◌+◌, Ordering, refl, inl, inr, sym, ap, ap₂, subst, ◌∙◌}
use Rattle.std.specs.List.{list_all, AllByRecursion}
use Rattle.std.specs.List.Sorted.{IsPermutation, IsSorted}
use Rattle.std.proofs.lemmas.List.Sorted.{IsPermutation-map}
use Rattle.sqlite_value.specs.declared.keys.Key.{Key}
use Rattle.sqlite.specs.Collation.{Collation}
use Rattle.sqlite.specs.declared.types.Value.{Value}
use Rattle.sqlite.specs.declared.types.Value.TheVariants.{Null, Int}
use Rattle.sqlite.specs.Order.{Row}
use Rattle.sqlite.specs.Tree.{Trees, rowid}
use Rattle.sqlite.specs.Term.{Term, Env, lit, eval_all, holds}
use Rattle.sqlite.specs.Query.{Query, Output, inner, end, output, output_cmp, sort_cmp, page, IsAnswer, matches}
use Rattle.sqlite.specs.Program.{overlay}
use Rattle.sqlite.specs.Schema.{Schema}
use Rattle.sqlite.specs.Command.TheVariants.{Select}
use Rattle.sqlite.specs.Listing.{understood, reads_listing}
use Rattle.sqlite.specs.State.{State, Shown, IsUnchanged, FailsToQuery, IsNotRun}
use Rattle.sqlite.specs.declared.error.Error.{Error}
use Rattle.fr_tables.specs.Changes.{Stays, AreListed}
use Rattle.sqlite.proofs.Callers.{IsPlain, command_of, reads_as}
use Rattle.sqlite_trees.proofs.ListLemmas.{flat_map-map, pull_back, map-map, filter-map, filter_same, all_of}
use Rattle.sqlite_exec.proofs.PartitionLemmas.{IsSorted-from_map}
use Rattle.sqlite_exec.proofs.RowsLemmas.{IsSorted-map}

-- the collations matter to DISTINCT alone
abbrev pub scan_by : List Collation → ℕ → List Term → List (Term × Key) → List Term → Query
scan_by by tree tests order project = record {
  from = inner tree end;
  filter = tests;
  group = None;
  project = project;
  distinct = false;
  collations = by;
  order = order;
  limit = lit (Int (negsuc 0));
  offset = lit (Int (pos 0));
}

abbrev pub scan : ℕ → List Term → List (Term × Key) → List Term → Query
scan = scan_by []

-- ways of the rows that pass WHERE, in an order that ORDER BY allows
pub record Scans {X : Type 0} (store : X → Row) (xs : List X) (params : Row) (tests : List Term) (order : List (Term × Key)) (project : List Term) (rows : List Row) : Type 0 where
  pub found : List X
  pub same : IsPermutation (filter (λ x. list_all (holds (params ∷ store x ∷ [])) tests) xs) found
  pub sorted : IsSorted (λ a b. sort_cmp order (params ∷ store a ∷ []) (params ∷ store b ∷ [])) found
  pub shown : rows ≡ map (λ x. eval_all project (params ∷ store x ∷ [])) found

module _ (by : List Collation) (tree : ℕ) (tests : List Term) (order : List (Term × Key)) (project : List Term) (params : Row) where
  abbrev q : Query
  q = scan_by by tree tests order project

  abbrev env_of : {X : Type 0} → (X → Row) → X → Env
  env_of store x = params ∷ store x ∷ []

  matched : {X : Type 0} (store : X → Row) (xs : List X) (db : Trees) → db tree ≡ map store xs
      → matches db tests (inner tree end) (params ∷ []) ≡ map (env_of store) (filter (λ x. list_all (holds (env_of store x)) tests) xs)
  matched store xs db is =
      let f = λ (r : Row). cond (list_all (holds (params ∷ r ∷ [])) tests) ((params ∷ r ∷ []) ∷ []) [] in
      ap (flat_map f) is ∙ flat_map-map f store xs ∙ each store xs
    where
      each : {X : Type 0} (store : X → Row) (xs : List X) → flat_map (λ x. cond (list_all (holds (env_of store x)) tests) (env_of store x ∷ []) []) xs
          ≡ map (env_of store) (filter (λ x. list_all (holds (env_of store x)) tests) xs)
      each store [] = refl
      each store (x ∷ xs) = elim (list_all (holds (env_of store x)) tests) as (λ b. cond b (env_of store x ∷ []) [] ++ flat_map (λ x. cond (list_all (holds (env_of store x)) tests) (env_of store x ∷ []) []) xs
          ≡ map (env_of store) (cond b (x ∷ filter (λ x. list_all (holds (env_of store x)) tests) xs) (filter (λ x. list_all (holds (env_of store x)) tests) xs)))
          [ true ↦ ap (λ es. env_of store x ∷ es) (each store xs) | false ↦ each store xs ]

  pub scanned : {X : Type 0} (store : X → Row) (xs : List X) (db : Trees) (rows : List Row) → db tree ≡ map store xs → IsAnswer q db params rows → Scans store xs params tests order project rows
  scanned store xs db rows is a =
      let staged = a.grouped ∙ matched store xs db is in
      let kept : a.kept ≡ map (λ x. output q (env_of store x)) (filter (λ x. list_all (holds (env_of store x)) tests) xs) = a.distinct ∙ ap (map (output q)) staged ∙ map-map _ _ _ in
      let back = pull_back (λ x. output q (env_of store x)) a.kept a.ordered a.same _ kept in
      record {
        found = back.0;
        same = back.1;
        sorted = IsSorted-from_map (output_cmp q) (λ x. output q (env_of store x)) back.0 (subst (IsSorted (output_cmp q)) back.2 a.sorted);
        shown = a.shown ∙ ap (λ (os : List Output). page q params (map (λ o. o.1) os)) back.2 ∙ map-map _ _ _;
      }

-- a query with no WITH reads the tables as they are
pub as_they_are : (db : Trees) (tree : ℕ) → overlay db [] tree ≡ db tree
as_they_are db tree = elim (nat_le (2 ^ 31) tree) as (λ b. unwrap_or (if b then slice_get [] (tree - 2 ^ 31) else None) (db tree) ≡ db tree) [ true ↦ refl | false ↦ refl ]

-- the text is that query
pub record Reads (schema : Schema) (text : List ℕ) (tree : ℕ) (tests : List Term) (order : List (Term × Key)) (project : List Term) : Type 0 where
  pub names : List (List ℕ)
  pub is : command_of (understood schema text) ≡ Select (record { lets = []; body = scan tree tests order project }) names
  pub unlisted : reads_listing schema text ≡ false
  pub plain : IsPlain (understood schema text)

pub reads : (schema : Schema) (text : List ℕ) (tree : ℕ) (tests : List Term) (order : List (Term × Key)) (project : List Term) → Reads schema text tree tests order project
    → (params : Row) (old new : State) (rows : List Row) → old.now.schema ≡ schema → Shown text params old new rows
    → {X : Type 0} (store : X → Row) (xs : List X) → old.now.trees tree ≡ map store xs → Scans store xs params tests order project rows
reads schema text tree tests order project r params old new rows has h store xs is =
    let answers = reads_as text params old new schema has (Select (record { lets = []; body = scan tree tests order project }) r.names) r.is r.plain r.unlisted rows h in
    scanned [] tree tests order project params store xs (overlay old.now.trees []) rows (as_they_are old.now.trees tree ∙ is) (answers.answer Null)

-- the rows of a table, by their rowids and their values
abbrev pub stored_as : {X : Type 0} → (X → Row) → Value × X → Row
stored_as columns p = p.0 ∷ columns p.1

abbrev pub known : {X : Type 0} → (Row → X) → Row → Value × X
known read r = (rowid r, read r)

pub all_known : {X : Type 0} (columns : X → Row) (read : Row → X) (rows : List Row) → AllByRecursion (λ r. r ≡ rowid r ∷ columns (read r)) rows → rows ≡ map (stored_as columns) (map (known read) rows)
all_known columns read [] h = refl
all_known columns read (r ∷ rows) h = ap₂ (λ x xs. x ∷ xs) h.0 (all_known columns read rows h.1)

pub map_alike : {X Y : Type 0} (f g : X → Y) → ((x : X) → f x ≡ g x) → (xs : List X) → map f xs ≡ map g xs
map_alike f g same [] = refl
map_alike f g same (x ∷ xs) = ap₂ (λ y ys. y ∷ ys) (same x) (map_alike f g same xs)

-- the same, of the values
pub listed : {X : Type 0} (columns shows : X → Row) (read : Row → X) (passes : X → Bool) (cmp : X → X → Ordering) (rows : List Row) (params : Row) (tests : List Term) (order : List (Term × Key))
    (project : List Term) (out : List Row)
    → ((p : Value × X) → list_all (holds (params ∷ stored_as columns p ∷ [])) tests ≡ passes p.1)
    → ((a b : Value × X) → sort_cmp order (params ∷ stored_as columns a ∷ []) (params ∷ stored_as columns b ∷ []) ≡ cmp a.1 b.1)
    → ((p : Value × X) → eval_all project (params ∷ stored_as columns p ∷ []) ≡ shows p.1)
    → Scans (stored_as columns) (map (known read) rows) params tests order project out → AreListed shows passes cmp (map read rows) out
listed {X} columns shows read passes cmp rows params tests order project out tested compared projected s =
    let value = λ (p : Value × X). p.1 in
    let pairs = map (known read) rows in
    let kept : filter (λ p. list_all (holds (params ∷ stored_as columns p ∷ [])) tests) pairs ≡ filter (λ p. passes p.1) pairs =
    filter_same _ _ pairs (all_of _ tested pairs) in
    let values : filter passes (map read rows) ≡ map value (filter (λ p. passes p.1) pairs) =
    ap (filter passes) (sym (map-map value (known read) rows)) ∙ filter-map passes value pairs in
    record {
      found = map value s.found;
      same = rw values (IsPermutation-map value _ _ (rw kept at s.same));
      sorted = IsSorted-map cmp value s.found (λ k d low high. sym (ap is_lt (compared (get_or s.found (k + 1) d) (get_or s.found k d))) ∙ s.sorted k d low high);
      shown = s.shown ∙ map_alike _ _ projected s.found ∙ sym (map-map shows value s.found);
    }

-- a query that answers changes nothing
pub shown_same : (schema : Schema) (text : List ℕ) (params : Row) (old new : State) (rows : List Row) → IsPlain (understood schema text) → old.now.schema ≡ schema → Shown text params old new rows → IsUnchanged old new
unfolding Shown
shown_same schema text params old new rows plain has h =
    let known = sym h.1.is ∙ ap (λ s. understood s text) has in
    let bare = subst IsPlain (sym known) plain in
    (rw bare.0 at h.2).3

pub query_failed : (text : List ℕ) (params : Row) (old new : State) (e : Error) → FailsToQuery text params old new e → IsPlain (understood old.now.schema text) → Stays old new
unfolding FailsToQuery IsNotRun
query_failed text params old new e (inl (inl h)) plain = inl h.1
query_failed text params old new e (inl (inr h)) plain = inr h.3
query_failed text params old new e (inr h) plain =
    let bare = subst IsPlain h.1.is plain in
    inl (rw bare.0 at h.2).3
