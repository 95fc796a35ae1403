use Rattle.std.proofs.Common.{◌≡◌, take, vec_len}
use Rattle.fr_picture.proofs.ChangeLemmas.{StandBySlot}
use Rattle.fr_picture.proofs.changes.by_slot.Given as goal

-- those up to here stand at the places of their slots
abbrev pub invariant-loop-row : goal.invariant-loop-row
invariant-loop-row l = record {
  len : vec_len l.slots ≡ 1024;
  stand : StandBySlot (take l.row-index l.rows) l.slots.items;
}
