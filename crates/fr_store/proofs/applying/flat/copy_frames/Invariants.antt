use Rattle.std.proofs.Common.{◌≡◌, IsTrue, All, map}
use Rattle.std.specs.Map.Iter.{deref}
use Rattle.sqlite.specs.State.{HasCleanDisk, Survives}
use Rattle.sqlite.specs.Held.{state}
use Rattle.fr_base.specs.Tables.{contains}
use Rattle.fr_tables.specs.Tables.{HasTables}
use Rattle.fr_store.specs.Flat.{Reaches}
use Rattle.fr_store.proofs.FlatSteps.{HasFilled}
use Rattle.fr_store.proofs.applying.flat.copy_frames.Given as goal

abbrev pub invariant-loop-name : goal.invariant-loop-name
invariant-loop-name g l =
    let old = state g.S.Store l.fn.tx.conn.now in
    let now = state g.S.Store l.tx.conn.now in
    (l.tx.conn.ghost_name ≡ l.fn.tx.conn.ghost_name)
    × (HasCleanDisk now → IsTrue old.in_transaction → HasTables old.now → HasFilled l.variant l.from (λ whole. All (λ n. IsTrue (contains whole (l.supplier, n))) l.names.keys)
    (λ whole part. All (λ n. Reaches whole part (l.supplier, n)) (map deref l.yielded)) old now)
    × Survives old now (λ _. ⊥)
