use Rattle.std.proofs.Common.{◌≡◌, IsTrue, take}
use Rattle.sqlite.specs.State.{HasCleanDisk, Survives}
use Rattle.sqlite.specs.Held.{state}
use Rattle.fr_tables.specs.Tables.{HasTables}
use Rattle.fr_tables.specs.Changes.{Changes}
use Rattle.fr_tables.specs.Filling.{with_suppliers}
use Rattle.fr_tables.proofs.filling.suppliers.Given as goal

abbrev pub invariant-loop-supplier : goal.invariant-loop-supplier
invariant-loop-supplier g l =
    let old = state g.S.Store l.fn.tx.conn.now in
    let now = state g.S.Store l.tx.conn.now in
    (l.tx.conn.ghost_name ≡ l.fn.tx.conn.ghost_name)
    × (HasCleanDisk now → IsTrue old.is_open → IsTrue old.in_transaction → HasTables old.now → Changes (with_suppliers (take l.supplier-index l.list)) old now)
    × Survives old now (λ _. ⊥)
