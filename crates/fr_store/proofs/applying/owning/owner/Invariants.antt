use Rattle.std.proofs.Common.{◌≡◌, IsTrue}
use Rattle.sqlite.specs.State.{HasCleanDisk, Survives}
use Rattle.sqlite.specs.Held.{state}
use Rattle.fr_tables.specs.Tables.{HasTables}
use Rattle.fr_store.proofs.ClimbLemmas.{HasClimbed}
use Rattle.fr_store.proofs.applying.owning.owner.Given as goal

abbrev pub invariant-loop : goal.invariant-loop
invariant-loop g l =
    let old = state g.S.Store l.fn.tx.conn.now in
    let now = state g.S.Store l.tx.conn.now in
    (l.tx.conn.ghost_name ≡ l.fn.tx.conn.ghost_name)
    × (HasCleanDisk now → IsTrue old.in_transaction → HasTables old.now → HasClimbed l.fn.key l.above old now)
    × Survives old now (λ _. ⊥)
