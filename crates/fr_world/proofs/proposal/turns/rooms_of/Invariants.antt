use Rattle.std.proofs.Common.{◌≡◌, take}
use Rattle.fr_world.specs.Proposals.{ShowRooms}
use Rattle.fr_world.proofs.proposal.turns.rooms_of.Given as goal

-- those of the slots before
abbrev pub invariant-loop-slot : goal.invariant-loop-slot
invariant-loop-slot l = record {
  params : l.rooms.params ≡ l.params;
  kind : l.rooms.kind ≡ l.fn.kind;
  rooms : ShowRooms l.rooms l.cells (take l.slot-index l.slots);
}
