use Rattle.std.proofs.Common.{◌≡◌, ℕ, List, filter, take}
use Rattle.fr_base.specs.Turns.{is_for}
use Rattle.fr_base.specs.declared.channel.Channels.{Channels}
use Rattle.fr_world.specs.Plans.{Takes}
use Rattle.fr_world.specs.Proposals.{ShowRooms}
use Rattle.fr_world.proofs.proposal.turns.Plan.take_alike.Given as goal

-- those before took places
abbrev pub invariant-loop-asked : goal.invariant-loop-asked
invariant-loop-asked l = record {
  params : l.rooms.params ≡ l.fn.params;
  kind : l.rooms.kind ≡ l.kind;
  rooms : ShowRooms l.rooms l.self.cells l.fn.slots;
  taken : (on : Channels → List ℕ) → on l.kind.channels ≡ l.fn.slots → Takes l.fn.params on l.fn.self.cells l.self.cells l.fn.self.given.items l.self.given.items (filter (is_for l.kind.channels l.kind.repetition) (take l.asked-index l.wishes));
}
