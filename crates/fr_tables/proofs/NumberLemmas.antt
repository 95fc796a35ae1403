-- What asking for the number of the register does.
use Rattle.std.proofs.Common.{◌≡◌, ◌≢◌, ◌⊎◌, inl, inr, ℕ, ℤ, List, [], ◌∷◌, map, filter, true, None, Some, Ok, Err, Result, IfOk, IfErr, IfSome, IsTrue, refl, sym, ap, subst, ◌∙◌}
use Rattle.std.specs.Prelude.{Vec, Option, Bool}
use Rattle.std.specs.declared.cmp.Ordering.{Ordering}
use Rattle.std.specs.declared.alloc.Global.{Global}
use Rattle.std.specs.List.Sorted.{IsPermutation}
use Rattle.std.proofs.lemmas.List.Sorted.{IsPermutation-map, IsPermutation-sym}
use Rattle.sqlite.specs.Order.{Row}
use Rattle.sqlite.specs.Schema.{Schema}
use Rattle.sqlite_trees.specs.declared.error.StoreError.{StoreError}
use Rattle.sqlite_trees.specs.declared.error.StoreError.TheVariants as cause
use Rattle.sqlite_schema.specs.declared.command.Returning.{Returning}
use Rattle.sqlite_schema.specs.declared.command.Command.{Command}
use Rattle.sqlite_schema.specs.declared.command.Command.TheVariants.{Select, Rows}
use Rattle.sqlite_resolve.specs.declared.compiled.Compiled.{Compiled}
use Rattle.sqlite_resolve.specs.declared.error.CompileError.{CompileError}
use Rattle.sqlite.specs.Effect.{Database, RefusesToRead}
use Rattle.sqlite.specs.State.{State, Shown, ShowsRows, FailsToQuery, FailsToShow, IsNotRun, IsTooLate, IsRolledBack, IsUnchanged, KeepsCommit, store_error}
use Rattle.sqlite.specs.declared.error.Error.{Error}
use Rattle.sqlite.specs.declared.error.Error.TheVariants.{SqlInputError}
use Rattle.sqlite.proofs.Callers.{IsPlain, one_permutation}
use Rattle.fr_tables.specs.Schema.{register_schema, old_schema, layout_of}
use Rattle.fr_tables.specs.Rows.{RegisterRow, of_register, register_in}
use Rattle.fr_tables.specs.Tables.{HasTables, HasSomeTables, AreKept, tables_in}
use Rattle.fr_tables.specs.Changes.{AreListed}
use Rattle.fr_tables.proofs.TableOf.{TableOf}
use Rattle.fr_tables.proofs.FindLemmas.{Queries, Selects, lists}
use Rattle.fr_tables.specs.Statements.{shows_register, every, any_order}
use Rattle.sqlite.specs.Clock.{timed}
use Rattle.fr_tables.specs.SchemaNumbers.{number_text, numbered, HasNumber, Answers, IsAnswer, IsQuery, SaysNumber, SaysNoNumber}
use Rattle.fr_tables.proofs.RegisterLemmas.{its_row, row_before}
use Rattle.fr_tables.proofs.ReadLemmas.{reads, stored_as, known, all_known, listed}

-- ---- whatever the text means, nothing is committed inside a transaction

same_commit : (old new : State) → IsUnchanged old new → KeepsCommit old new
same_commit old new h = record { was_open = λ _. h.0.was_open; committed = λ _. h.0.committed_is }

undone_commit : (old new : State) → IsRolledBack old new → KeepsCommit old new
undone_commit old new h = record { was_open = h.was_open; committed = λ up. (h.undone up).1 }

module _ (sql : List ℕ) (old new : State) (inside : old.in_transaction ≡ true) where
  shows_keeps : (c : Compiled) (params : Row) (rows : List Row) (what : Option Returning) → ShowsRows old new sql c params rows what → KeepsCommit old new
  shows_keeps c params rows None h = same_commit old new h.3
  shows_keeps c params rows (Some what) h = record { was_open = λ _. h.1.shown.was_open; committed = λ _. rw inside at h.1.shown.committed_is }

  pub shown_keeps : (params : Row) (rows : List Row) → Shown sql params old new rows → KeepsCommit old new
  unfolding Shown
  shown_keeps params rows h = shows_keeps h.0 _ rows h.0.returning h.2

  refused_keeps : (c : Compiled) (params : Row) (e : Error) (what : Option Returning) → FailsToShow old new sql c params e what → KeepsCommit old new
  refused_keeps c params e None h = same_commit old new h.3
  refused_keeps c params e (Some what) (inl h) = same_commit old new h.1
  refused_keeps c params e (Some what) (inr h) = undone_commit old new h.3

  pub failed_keeps : (params : Row) (e : Error) → FailsToQuery sql params old new e ⊎ IsTooLate sql params old new e → KeepsCommit old new
  unfolding FailsToQuery IsNotRun
  failed_keeps params e (inl (inl (inl h))) = same_commit old new h.1
  failed_keeps params e (inl (inl (inr h))) = undone_commit old new h.3
  failed_keeps params e (inl (inr h)) = refused_keeps h.0 _ e h.0.returning h.2
  failed_keeps params e (inr h) = same_commit old new h.5

  pub keeps : (params : Row) (r : Result (Vec Row Global) Error) → IfOk r (λ rows. Shown sql params old new rows.items) → IfErr r (λ e. FailsToQuery sql params old new e ⊎ IsTooLate sql params old new e)
      → KeepsCommit old new
  keeps params (Ok rows) h k = shown_keeps params rows.items h
  keeps params (Err e) h k = failed_keeps params e k

-- what was asked inside is undone
pub as_before : (old mid new : State) → (IsTrue old.is_open → old.now ≡ old.committed) → KeepsCommit old mid → IsRolledBack mid new → IsTrue new.is_open
    → IsTrue old.is_open × (new.now ≡ old.now) × (new.committed ≡ old.committed)
as_before old mid new settled kept undone up =
    let there = undone.was_open up in
    let same = kept.committed there in
    (kept.was_open there, (undone.undone up).0 ∙ same ∙ sym (settled (kept.was_open there)), (undone.undone up).1 ∙ same)

-- ---- of a register

all_pass : (xs : List RegisterRow) → filter every xs ≡ xs
all_pass [] = refl
all_pass (x ∷ xs) = ap (λ ys. x ∷ ys) (all_pass xs)

-- the register's rows, where the number's text is a query of them
module _ (schema : Schema) (q : Queries schema of_register shows_register every any_order 0 number_text []) where
  pub numbers_shown : (old new : State) (rows : List Row) → old.now.schema ≡ schema → AreKept of_register register_in (old.now.trees 0) → Shown number_text [] old new rows
      → IsPermutation (map shows_register (tables_in old.now.trees).register) rows
  numbers_shown old new rows has kept h =
      let scans = reads schema number_text 0 q.tests q.order q.project q.is [] old new rows has h (stored_as of_register) (map (known register_in) (old.now.trees 0)) (all_known of_register register_in (old.now.trees 0) kept.typed) in
      let all = listed of_register shows_register register_in every _ (old.now.trees 0) [] q.tests q.order q.project rows q.tested q.compared q.projected scans in
      subst (IsPermutation (map shows_register (tables_in old.now.trees).register)) (sym all.shown) (IsPermutation-map shows_register _ _ (rw all_pass at all.same))

no_text_fault : (kind : StoreError) (x : _) → store_error kind ≢ SqlInputError x
no_text_fault cause.OutOfMemory x e = absurd cc
no_text_fault cause.Io x e = absurd cc
no_text_fault cause.Corrupt x e = absurd cc
no_text_fault cause.Full x e = absurd cc
no_text_fault cause.Broken x e = absurd cc
no_text_fault cause.Unstorable x e = absurd cc

read_is_no_text : (limit : Option ℕ) (command : Command) (db : Database) (params : Row) (e : Error) (x : _) → RefusesToRead limit command db params e → e ≢ SqlInputError x
read_is_no_text limit (Select q names) db params e x (inl h) is = absurd (let k = h.0 in cc)
read_is_no_text limit (Select q names) db params e x (inr (inl h)) is = absurd (let k = h.0 in cc)
read_is_no_text limit (Select q names) db params e x (inr (inr h)) is = absurd (let k = h.0 in cc)
read_is_no_text limit (Rows values width names) db params e x h is = absurd (let k = h.0 in cc)
read_is_no_text limit _ db params e x h is = absurd cc

plain_query : (r : Result Compiled CompileError) → IsPlain r → (c : Compiled) × (r ≡ Ok c) × (c.returning ≡ None)
plain_query (Ok c) plain = (c, refl, plain.0)
plain_query (Err f) plain = absurd plain

-- the text is a query, so the error is another
pub no_text_error : (sql : List ℕ) (old new : State) (e : Error) (x : _) → IsQuery old.now.schema sql → FailsToQuery sql [] old new e ⊎ IsTooLate sql [] old new e → e ≢ SqlInputError x
unfolding FailsToQuery IsNotRun
no_text_error sql old new e x query (inl (inl (inl h))) is = elim h.0 [
  | inl bad ↦ absurd (let both = sym query.1 ∙ bad.1 in cc)
  | inr other ↦ elim other.2 [ inl many ↦ absurd (let k = many.1 in cc) | inr rest ↦ elim rest [ inl few ↦ absurd (let k = few.1 in cc) | inr late ↦ absurd (let k = late.1 in cc) ] ]
]
no_text_error sql old new e x query (inl (inl (inr h))) is = absurd (no_text_fault h.0 x (sym h.1 ∙ is))
no_text_error sql old new e x query (inl (inr h)) is =
    let same : h.0 ≡ query.0 = cc (sym h.1.is ∙ query.1) in
    let bare : h.0.returning ≡ None = ap (λ (c : Compiled). c.returning) same ∙ query.2 in
    let refused = rw bare at h.2 in
    absurd (read_is_no_text _ h.0.command refused.0 _ e x refused.2 is)
no_text_error sql old new e x query (inr h) is = absurd (let k = h.4 in cc)

-- the number's text is a query of the register's rows in either schema
some_shown : (old new : State) (rows : List Row) → HasSomeTables old.now → Shown number_text [] old new rows → IsPermutation (map shows_register (tables_in old.now.trees).register) rows
some_shown old new rows (inl was) h = numbers_shown (register_schema (layout_of old.now.trees)) (its_row (layout_of old.now.trees) was.behind) old new rows was.schema was.register h
some_shown old new rows (inr was) h = numbers_shown (old_schema (layout_of old.now.trees).index (layout_of old.now.trees).before) (row_before (layout_of old.now.trees).index (layout_of old.now.trees).before) old new rows was.schema was.register h

some_query : (db : Database) → HasSomeTables db → IsQuery db.schema number_text
some_query db (inl was) = rw was.schema (plain_query _ (its_row (layout_of db.trees) was.behind).is.plain)
some_query db (inr was) = rw was.schema (plain_query _ (row_before (layout_of db.trees).index (layout_of db.trees).before).is.plain)

pub asked_shown : (sql : List ℕ) (old begun mid : State) (r : Result (Vec Row Global) Error) → sql ≡ number_text → begun.now ≡ old.now → HasSomeTables old.now → IfOk r (λ rows. Shown sql [] begun mid rows.items)
    → IfOk r (λ rows. IsPermutation (map shows_register (tables_in old.now.trees).register) rows.items)
asked_shown sql old begun mid (Ok rows) text same was h =
    subst (λ (d : Database). IsPermutation (map shows_register (tables_in d.trees).register) rows.items) same
    (some_shown begun mid rows.items (subst HasSomeTables (sym same) was) (subst (λ t. Shown t [] begun mid rows.items) text h))
asked_shown sql old begun mid (Err e) text same was h = tt

pub asked_told : (sql : List ℕ) (old begun mid : State) (r : Result (Vec Row Global) Error) → sql ≡ number_text → begun.now ≡ old.now → HasSomeTables old.now
    → IfErr r (λ e. FailsToQuery sql [] begun mid e ⊎ IsTooLate sql [] begun mid e) → IfErr r (λ e. (x : CompileError) → e ≢ SqlInputError x)
asked_told sql old begun mid (Ok rows) text same was h = tt
asked_told sql old begun mid (Err e) text same was h =
    λ x. no_text_error number_text begun mid e x (some_query begun.now (subst HasSomeTables (sym same) was)) (subst (λ t. FailsToQuery t [] begun mid e ⊎ IsTooLate t [] begun mid e) text h)

-- what is asked of another table
module _ {X : Type 0} {columns : X → Row} {read : Row → X} (k : TableOf columns read) {shows : X → Row} {passes : X → Bool} {cmp : X → X → Ordering} {text : List ℕ} (each : Selects k shows passes cmp text []) where
  pub asked_listed : (sql : List ℕ) (old begun mid : State) (r : Result (Vec Row Global) Error) → sql ≡ text → begun.now ≡ old.now → HasTables old.now
      → IfOk r (λ rows. Shown sql [] begun mid rows.items) → IfOk r (λ rows. AreListed shows passes cmp (k.rows (tables_in old.now.trees)) rows.items)
  asked_listed sql old begun mid (Ok rows) is same was h =
      subst (λ (d : Database). AreListed shows passes cmp (k.rows (tables_in d.trees)) rows.items) same
      (lists k each begun mid (subst HasTables (sym same) was) rows.items (subst (λ t. Shown t [] begun mid rows.items) is h))
  asked_listed sql old begun mid (Err e) is same was h = tt

one_number : (xs : List RegisterRow) (n : ℤ) → map shows_register xs ≡ shows_register (numbered n) ∷ [] → xs ≡ numbered n ∷ []
one_number [] n e = absurd cc
one_number (x ∷ []) n e = let same : x.schema ≡ n = cc in ap (λ m. numbered m ∷ []) same
one_number (x ∷ y ∷ xs) n e = absurd cc

-- the rows are those of one number, and so is the register
pub number_known : (db : Database) (n : ℤ) (rows : List Row) → rows ≡ shows_register (numbered n) ∷ [] → IsPermutation (map shows_register (tables_in db.trees).register) rows → HasSomeTables db → HasNumber db n
number_known db n rows is same was =
    record { has = was; number = one_number (tables_in db.trees).register n (one_permutation (shows_register (numbered n)) _ (IsPermutation-sym _ _ (rw is at same))) }

pub rows_known : (db : Database) (n : ℤ) (rows : List Row) → HasNumber db n → IsPermutation (map shows_register (tables_in db.trees).register) rows → rows ≡ shows_register (numbered n) ∷ []
rows_known db n rows has same = one_permutation (shows_register (numbered n)) rows (rw has.number at same)

pub number_some : (db : Database) (rows : List Row) (found : Option ℤ) → IfSome found (λ n. rows ≡ shows_register (numbered n) ∷ []) → (HasSomeTables db → IsPermutation (map shows_register (tables_in db.trees).register) rows)
    → IfSome found (λ n. HasSomeTables db → HasNumber db n)
number_some db rows None is same = tt
number_some db rows (Some n) is same = λ was. number_known db n rows is (same was) was

-- ---- of a database with any schema

shows_answer : (sql : List ℕ) (old new : State) (c : Compiled) (now : ℕ) (rows : List Row) (what : Option Returning) → ShowsRows old new sql c (timed [] c.formats now) rows what → what ≡ None → IsAnswer sql old.now c rows
shows_answer sql old new c now rows None h none = (h.0, h.1, now, h.2)
shows_answer sql old new c now rows (Some what) h none = absurd cc

is_answer : (sql : List ℕ) (old new : State) (rows : List Row) → Shown sql [] old new rows → Answers sql old.now rows
unfolding Shown
is_answer sql old new rows h = record { compiled = h.0; is = h.1.is; shows = shows_answer sql old new h.0 h.1.now rows h.0.returning h.2 }

-- what is shown is the answer
pub asked_answers : (sql : List ℕ) (old begun mid : State) (r : Result (Vec Row Global) Error) → begun.now ≡ old.now → IfOk r (λ rows. Shown sql [] begun mid rows.items) → IfOk r (λ rows. Answers sql old.now rows.items)
asked_answers sql old begun mid (Ok rows) same h = subst (λ (d : Database). Answers sql d rows.items) same (is_answer sql begun mid rows.items h)
asked_answers sql old begun mid (Err e) same h = tt

-- where the text is not understood, it is no query
pub asked_unread : (sql : List ℕ) (old begun mid : State) (r : Result (Vec Row Global) Error) → begun.now ≡ old.now → IfErr r (λ e. FailsToQuery sql [] begun mid e ⊎ IsTooLate sql [] begun mid e)
    → IfErr r (λ e. (x : CompileError) → e ≡ SqlInputError x → ¬ IsQuery old.now.schema sql)
asked_unread sql old begun mid (Ok rows) same h = tt
asked_unread sql old begun mid (Err e) same h =
    λ x is query. no_text_error sql begun mid e x (subst (λ (d : Database). IsQuery d.schema sql) (sym same) query) h is

-- the rows are those of the number that was read of them, or of none
pub number_says : (db : Database) (rows : List Row) (found : Option ℤ) → IfSome found (λ n. rows ≡ shows_register (numbered n) ∷ []) → Answers number_text db rows → IfSome found (SaysNumber db)
number_says db rows None is h = tt
number_says db rows (Some n) is h = subst (Answers number_text db) is h

pub number_silent : (db : Database) (rows : List Row) (found : Option ℤ) → ((n : ℤ) → rows ≡ shows_register (numbered n) ∷ [] → found ≡ Some n) → Answers number_text db rows → found ≡ None → SaysNoNumber db
number_silent db rows found is h none = inr (rows, h, λ n same. let some = is n same in absurd cc)
