use Rattle.std.proofs.Common.{◌≡◌, IsTrue, take}
use Rattle.sqlite.specs.State.{HasCleanDisk, Survives}
use Rattle.sqlite.specs.Held.{state}
use Rattle.fr_base.specs.declared.name.Name.{Name}
use Rattle.fr_tables.specs.Tables.{HasTables}
use Rattle.fr_store.specs.Flat.{AnyFrames, Reaches, has_name}
use Rattle.fr_store.proofs.FlatSteps.{HasFilled}
use Rattle.fr_store.proofs.applying.flat.copy_all.Given as goal

abbrev pub invariant-loop-supplier : goal.invariant-loop-supplier
invariant-loop-supplier g l =
    let old = state g.S.Store l.fn.tx.conn.now in
    let now = state g.S.Store l.tx.conn.now in
    (l.tx.conn.ghost_name ≡ l.fn.tx.conn.ghost_name)
    × (HasCleanDisk now → IsTrue old.in_transaction → HasTables old.now → HasFilled l.variant l.from AnyFrames (λ whole part. (s n : Name) → IsTrue (has_name s (take l.supplier-index l.suppliers)) → Reaches whole part (s, n)) old now)
    × Survives old now (λ _. ⊥)
