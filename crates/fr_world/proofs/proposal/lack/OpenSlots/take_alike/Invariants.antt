use Rattle.std.proofs.Common.{◌≡◌, filter, take}
use Rattle.std.specs.List.{range_with_len}
use Rattle.fr_base.specs.Turns.{is_for}
use Rattle.fr_world.specs.Plans.{Opens}
use Rattle.fr_world.specs.Proposals.{ShowRooms}
use Rattle.fr_world.proofs.proposal.lack.OpenSlots.take_alike.Given as goal

-- those before took places
abbrev pub invariant-loop-asked : goal.invariant-loop-asked
invariant-loop-asked l = record {
  params : l.rooms.params ≡ l.fn.params;
  kind : l.rooms.kind ≡ l.kind;
  rooms : ShowRooms l.rooms l.self.cells (range_with_len 1 l.self.count);
  taken : Opens l.fn.params l.fn.self.count l.fn.self.cells l.self.count l.self.cells (filter (is_for l.kind.channels l.kind.repetition) (take l.asked-index l.wishes));
}
