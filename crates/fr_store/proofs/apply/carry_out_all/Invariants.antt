use Rattle.std.proofs.Common.{◌≡◌, IsTrue, take, unwrap_or}
use Rattle.sqlite.specs.State.{HasCleanDisk, Survives}
use Rattle.sqlite.specs.Held.{state}
use Rattle.fr_tables.specs.Tables.{HasTables}
use Rattle.fr_store.specs.Joined.{after_edits}
use Rattle.fr_store.proofs.EditSteps.{HasCome}
use Rattle.fr_store.proofs.apply.carry_out_all.Given as goal

abbrev pub invariant-loop-edit : goal.invariant-loop-edit
invariant-loop-edit g l =
    let old = state g.S.Store l.fn.tx.conn.now in
    let now = state g.S.Store l.tx.conn.now in
    (l.tx.conn.ghost_name ≡ l.fn.tx.conn.ghost_name)
    × (HasCleanDisk now → IsTrue old.in_transaction → HasTables old.now → HasCome l.edits l.edit-index old now)
    × Survives old now (λ _. ⊥)
    × (unwrap_or l.after l.config ≡ after_edits l.config (take l.edit-index l.edits))
