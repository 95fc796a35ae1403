-- What the statement does that adds a dropped frame, unless it is there.
use Rattle.std.proofs.Common.{Option, ◌≡◌, ◌⊎◌, inl, inr, ℕ, List, [], ◌∷◌, ◌++◌, codes, map, length, ◌/◌, ◌||◌, if◌then◌else◌, ◌≢◌, ℤ, Bool, true, false, Some, None, Ok, refl, sym, ap, subst, ◌∙◌}
use Rattle.std.specs.List.{list_any, AllByRecursion}
use Rattle.std.proofs.lemmas.Bool.{false_from_ne_true}
use Rattle.sqlite.specs.declared.types.Value.{Value}
use Rattle.sqlite.specs.declared.types.Value.TheVariants.{Null, Int}
use Rattle.sqlite.specs.Order.{Row}
use Rattle.sqlite.specs.Term.{Term, lit, col}
use Rattle.sqlite.specs.Tree.{Trees, rowid, put_row}
use Rattle.sqlite.specs.Edit.{edit_of, next_rowid, with_rowid}
use Rattle.sqlite.specs.Cast.{cast_row}
use Rattle.sqlite.specs.Table.{Table}
use Rattle.sqlite_trees.proofs.ListLemmas.{all_of}
use Rattle.sqlite.specs.Rowids.TheVariants.{Given, Chosen}
use Rattle.sqlite.specs.Effect.{Database, value_rows}
use Rattle.sqlite.specs.Rows.{Written, Tries, TriesEach, Puts, Upserts, InsertsOr, nothing, stamped, count_of}
use Rattle.sqlite.specs.Source.TheVariants.{Values}
use Rattle.sqlite.specs.Command.TheVariants.{InsertOr}
use Rattle.sqlite.specs.Listing.{understood}
use Rattle.sqlite.specs.State.{State, Executes}
use Rattle.sqlite.proofs.Callers.{IsPlain, command_of, one_step}
use Rattle.sqlite_schema.specs.declared.command.Conflict.TheVariants.{Abort}
use Rattle.sqlite_schema.specs.declared.command.Upsert.{Upsert}
use Rattle.sqlite_schema.specs.declared.schema.Keys.TheVariants.{Enforced}
use Rattle.sqlite_rules.specs.Lists.{Has}
use Rattle.sqlite_rules.specs.Keys.{conflicts}
use Rattle.sqlite_rules.specs.Edit.{Applies, taken_by}
use Rattle.sqlite_rules.proofs.ListLemmas.{all_has, some_has, some_from}
use Rattle.sqlite_rules.proofs.ProbeLemmas.{mapped_has}
use Rattle.sqlite_tied.specs.Compute.{everything}
use Rattle.sqlite_tied.proofs.RuleLemmas.{and_true}
use Rattle.fr_tables.proofs.BehindLemmas.{works_same}
use Rattle.fr_tables.specs.Schema.{Layout, layout_of, register_schema, old_schema, tables_at, dropped}
use Rattle.fr_tables.specs.Rows.{DroppedRow, of_dropped, dropped_in}
use Rattle.fr_tables.specs.Tables.{HasTables, AreKept}
use Rattle.fr_tables.specs.Changes.{Changes}
use Rattle.fr_tables.specs.Statements.{with_dropped, is_dropped}
use Rattle.fr_tables.proofs.Compared.{equal_texts, cast_null, cast_integer}
use Rattle.fr_tables.proofs.Steps.{went, same_value}
use Rattle.fr_tables.proofs.KeptLemmas.{put_next}
use Rattle.fr_tables.proofs.DeleteLemmas.{mapped_from}
use Rattle.fr_tables.proofs.RunLemmas.{task_of, inserts_or}
use Rattle.fr_tables.proofs.TableOf.{Does, does}
use Rattle.fr_tables.proofs.TheTables.{dropped_table}

abbrev insert_text : List ℕ
insert_text = codes "INSERT INTO dropped (variant, supplier, frame) VALUES (?1, ?2, ?3) ON CONFLICT (variant, supplier, frame) DO NOTHING"

abbrev key : List ℕ
key = 1 ∷ 2 ∷ 3 ∷ []

abbrev clause : Upsert
clause = record { target = Some key; update = None }

abbrev terms : List Term
terms = lit Null ∷ col 0 0 ∷ col 0 1 ∷ col 0 2 ∷ []

record Enters (l : Layout) : Type 0 where
  pub is : command_of (understood (register_schema l) insert_text) ≡ InsertOr 10 Abort (Values terms 4) (clause ∷ [])
  pub plain : IsPlain (understood (register_schema l) insert_text)

insert_is : (l : Layout) → Enters l
unfolding understood everything
insert_is l = record { is = refl; plain = (refl, refl) }

or_false : (b : Bool) → (b || false) ≡ b
or_false true = refl
or_false false = refl

module _ (l : Layout) (d : DroppedRow) where
  abbrev is_it : DroppedRow → Bool
  is_it x = is_dropped d x

  -- a row stands in the way where it has the key
  conflict : (index : Option ℕ) (id other : Value) (x : DroppedRow) → conflicts (Some key) (old_schema index None).indexes dropped (other ∷ of_dropped d) (id ∷ of_dropped x) ≡ is_it x
  unfolding everything
  conflict None id other x = rw (equal_texts x.variant d.variant, equal_texts x.supplier d.supplier, equal_texts x.frame d.frame, and_true, or_false)
  conflict (Some tree) id other x = rw (equal_texts x.variant d.variant, equal_texts x.supplier d.supplier, equal_texts x.frame d.frame, and_true, or_false)

  abbrev entry : Trees → Row
  entry db = Int (next_rowid (db 19)) ∷ of_dropped d

  -- nothing is done where the row is there, and else it is put
  abbrev Enters_in : Trees → Trees → Type 0
  Enters_in db next =
      ((list_any is_it (map dropped_in (db 19)) ≡ true) × (next ≡ db))
      ⊎ ((list_any is_it (map dropped_in (db 19)) ≡ false) × Applies (register_schema l) Enforced db (edit_of db dropped [] Given 0 (entry db ∷ [])) next)

  module _ (old : State) (kept : AreKept of_dropped dropped_in (old.now.trees 19)) where
    abbrev db : Trees
    db = old.now.trees

    there : (r : Row) → Has (db 19) r → conflicts (Some key) (register_schema l).indexes dropped (entry db) r ≡ is_it (dropped_in r)
    there r h =
        let typed : r ≡ rowid r ∷ of_dropped (dropped_in r) = all_has _ (db 19) r kept.typed h in
        ap (λ y. conflicts (Some key) (register_schema l).indexes dropped (entry db) y) typed ∙ conflict l.index (rowid r) (Int (next_rowid (db 19))) (dropped_in r)

    puts : (w : Written) → Puts (task_of old (register_schema l) dropped (of_dropped d)) (entry db) db (Ok w) → Applies (register_schema l) Enforced db (edit_of db dropped [] Given 0 (entry db ∷ [])) w.trees
    puts w h =
        let did = went h in
        subst (λ t. Applies (register_schema l) Enforced db (edit_of db dropped [] Given 0 (entry db ∷ [])) t) (ap (λ (x : Written). x.trees) (sym (same_value did.2)))
        (one_step (register_schema l) Enforced db did.0 (edit_of db dropped [] Given 0 (entry db ∷ [])) (works_same l 0 19 (taken_by db (edit_of db dropped [] Given 0 (entry db ∷ []))) (edit_of db dropped [] Given 0 (entry db ∷ [])).news) did.1)

    upserts : (w : Written) → Upserts (task_of old (register_schema l) dropped (of_dropped d)) Abort (entry db) db (clause ∷ []) (Ok w) → Enters_in db w.trees
    upserts w ([], found, h) = inr (
      false_from_ne_true _ (λ any.
          let x = some_has is_it (map dropped_in (db 19)) any in
          let from = mapped_from dropped_in (db 19) x.0 x.1 in
          found.complete from.0 from.1 (there from.0 from.1 ∙ ap is_it (sym from.2) ∙ x.2)),
      last h,
    )
      where
        last : Upserts (task_of old (register_schema l) dropped (of_dropped d)) Abort (entry db) db [] (Ok w) → Applies (register_schema l) Enforced db (edit_of db dropped [] Given 0 (entry db ∷ [])) w.trees
        last ([], other, k) = puts w k
        last (x ∷ more, other, k) = puts w k
    upserts w (x ∷ more, found, h) =
        let r = found.sound x (inl refl) in
        inl (
          some_from is_it (map dropped_in (db 19)) (dropped_in r.0) (mapped_has dropped_in (db 19) r.0 r.1) (sym (there r.0 r.1) ∙ r.2),
          ap (λ (y : Written). y.trees) (same_value h),
        )

    tries : (w : Written) → Tries (task_of old (register_schema l) dropped (of_dropped d)) Abort (clause ∷ []) (entry db) db (Ok w) → Enters_in db w.trees
    tries w (inl big) = absurd (let e = big.1 in cc)
    tries w (inr (None, judged, h)) = upserts w h
    tries w (inr (Some why, judged, h)) = absurd (let e = h in cc)

  gives : value_rows (stamped dropped (of_dropped d)) 4 (length terms / 4) terms ≡ (Null ∷ of_dropped d) ∷ []
  unfolding everything
  gives = refl

  -- the rowid is chosen
  is_entry : (rows : List Row) → with_rowid Chosen rows (cast_row dropped (Null ∷ of_dropped d)) ≡ Int (next_rowid rows) ∷ of_dropped d
  is_entry rows = ap (with_rowid Chosen rows) stores
    where
      stores : cast_row dropped (Null ∷ of_dropped d) ≡ Null ∷ of_dropped d
      stores = rw cast_null

  cast_entry : (rows : List Row) → cast_row dropped (Int (next_rowid rows) ∷ of_dropped d) ≡ Int (next_rowid rows) ∷ of_dropped d
  cast_entry rows = rw (cast_integer (next_rowid rows))

  enters_in : (old : State) → AreKept of_dropped dropped_in (old.now.trees 19) → (w : Written)
      → InsertsOr (task_of old (register_schema l) dropped (of_dropped d)) Abort (clause ∷ []) (Values terms 4) old.now.trees (Ok w) → Enters_in old.now.trees w.trees
  enters_in old kept w h =
      let task = task_of old (register_schema l) dropped (of_dropped d) in
      let db = old.now.trees in
      let given = went h in
      let counter = went given.2 in
      let tried = went counter.2 in
      let counted = went tried.2 in
      let row = went (subst (λ rows. TriesEach task Abort (clause ∷ []) rows (count_of counter.0) (nothing db) (Ok tried.0)) (given.1.1 ∙ gives) tried.1) in
      let one : Tries task Abort (clause ∷ []) (entry db) db (Ok row.0) = subst (λ new. Tries task Abort (clause ∷ []) new db (Ok row.0)) (is_entry (db 19)) row.1 in
      let trees : w.trees ≡ row.0.trees =
      ap (λ (x : Written). x.trees) (same_value counted.2) ∙ same_value counted.1 ∙ ap (λ (x : Written × ℤ). x.0.trees) (same_value row.2) in
      subst (Enters_in db) (sym trees) (tries old kept row.0 one)

module _ (d : DroppedRow) where
  entered : (old new : State) (count : ℕ) → HasTables old.now → Executes insert_text (of_dropped d) old new (Ok count) → Changes (with_dropped d) old new
  entered old new count was h =
      let l = layout_of old.now.trees in
      let db = old.now.trees in
      let rows = db 19 in
      let ran = inserts_or (register_schema l) dropped insert_text (of_dropped d) (insert_is l).plain old new count was.schema h 10 refl Abort (Values terms 4) (clause ∷ []) (insert_is l).is in
      let trees : new.now.trees ≡ ran.written.trees = ap (λ (d : Database). d.trees) ran.now in
      let added = λ (ds : List DroppedRow). if list_any (is_it l d) ds then ds else ds ++ d ∷ [] in
      elim (enters_in l d old was.dropped ran.written ran.wrote) [
        | inl there ↦
            let same : new.now.trees ≡ db = trees ∙ there.1 in
            dropped_table.made old new was added (record { still = ran.still; others = all_of (λ (t : Table). t.tree ≢ 19 → new.now.trees t.tree ≡ db t.tree) (λ t other. ap (λ (db : Trees). db t.tree) same) (tables_at l); shown = ran.shown })
            (record { kept = subst (λ (db : Trees). AreKept of_dropped dropped_in (db 19)) (sym same) was.dropped; values_are = ap (λ (db : Trees). map dropped_in (db 19)) same ∙ rw there.0 refl })
        | inr fresh ↦
            let put = put_next of_dropped dropped_in rows d (λ id. refl) was.dropped in
            let rows_are : new.now.trees 19 ≡ put_row (entry l d db) rows = ap (λ (db : Trees). db 19) trees ∙ fresh.1.rows ∙ ap (λ r. put_row r rows) (cast_entry l d rows) in
            dropped_table.made old new was added (record { still = ran.still; others = subst (λ (next : Trees). AllByRecursion (λ (t : Table). t.tree ≢ 19 → next t.tree ≡ db t.tree) (tables_at l)) (sym trees) fresh.1.tables; shown = ran.shown })
            (record { kept = subst (AreKept of_dropped dropped_in) (sym rows_are) put.0; values_are = ap (map dropped_in) rows_are ∙ put.1 ∙ rw fresh.0 refl })
      ]

  pub enters : Does insert_text (of_dropped d) (Changes (with_dropped d))
  enters = does insert_text (of_dropped d) _ entered
