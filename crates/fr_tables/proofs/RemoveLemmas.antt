-- What a DELETE from a table whose rows nothing refers to makes of its values.
use Rattle.std.proofs.Common.{◌≡◌, ℕ, List, [], ◌∷◌, map, filter, not, Bool, Ok, sym, ap, subst, ◌∙◌}
use Rattle.std.specs.List.{list_all}
use Rattle.sqlite.specs.declared.types.Value.{Value}
use Rattle.sqlite.specs.Order.{Row}
use Rattle.sqlite.specs.Term.{Term, holds}
use Rattle.sqlite.specs.State.{State, Executes}
use Rattle.sqlite_rules.specs.Action.{works}
use Rattle.sqlite_schema.specs.declared.schema.Keys.TheVariants.{Enforced}
use Rattle.fr_tables.specs.Schema.{Layout, layout_of, register_schema}
use Rattle.fr_tables.specs.Tables.{HasTables, AreKept}
use Rattle.fr_tables.specs.Changes.{Changes}
use Rattle.fr_tables.proofs.TableOf.{TableOf, Does, does}
use Rattle.fr_tables.proofs.ReadLemmas.{stored_as}
use Rattle.fr_tables.proofs.DeleteLemmas.{Deletes, deleted, erases, erased_rows}

module _ {X : Type 0} {columns : X → Row} {read : Row → X} (k : TableOf columns read) where
  -- the text takes the rows that pass out of the table
  pub record Removes (text : List ℕ) (params : Row) (passes : X → Bool) : Type 0 where
    pub tests : List Term
    pub is : (l : Layout) → Deletes (register_schema l) (k.table l) (k.at l) text tests
    pub idle : (l : Layout) (olds : List Row) → works (register_schema l) Enforced 0 (k.table l).tree olds [] ≡ []
    pub tested : (p : Value × X) → list_all (holds (params ∷ stored_as columns p ∷ [])) tests ≡ passes p.1

  module _ {text : List ℕ} {params : Row} {passes : X → Bool} (d : Removes text params passes) where
    -- so the others are left
    pub removed : (old new : State) (count : ℕ) → HasTables old.now → Executes text params old new (Ok count) → Changes (λ t. k.put (filter (λ x. not (passes x)) (k.rows t)) t) old new
    removed old new count was h =
        let l = layout_of old.now.trees in
        let table = k.table l in
        let kept = k.kept old.now was in
        let did = deleted (register_schema l) table (k.at l) (k.place l) text d.tests (d.is l) params old new count was.schema h in
        let all = erases (register_schema l) table d.tests params old new did (d.idle l) in
        let left = erased_rows columns read (λ r. list_all (holds (params ∷ r ∷ [])) d.tests) passes (old.now.trees table.tree) did.found d.tested kept did.same in
        k.made old new was (filter (λ x. not (passes x))) (record { still = did.still; others = all.tables; shown = did.shown })
        (record { kept = subst (AreKept columns read) (sym all.rows) left.0; values_are = ap (map read) all.rows ∙ left.1 })

    pub removes : Does text params (Changes (λ t. k.put (filter (λ x. not (passes x)) (k.rows t)) t))
    removes = does text params _ removed
