use Rattle.std.proofs.Common.{◌≡◌}
use Rattle.std.specs.List.{range_with_len}
use Rattle.fr_world.specs.Proposals.{ShowRooms}
use Rattle.fr_world.proofs.proposal.lack.OpenSlots.rooms.Given as goal

-- the slots before
abbrev pub invariant-loop-number : goal.invariant-loop-number
invariant-loop-number l = record {
  params : l.rooms.params ≡ l.params;
  kind : l.rooms.kind ≡ l.fn.kind;
  rooms : ShowRooms l.rooms l.self.cells (range_with_len 1 l.number);
}
