-- What was read was let go, and nothing else moved.
use Rattle.std.proofs.Common.{◌≡◌}
use Rattle.std.specs.Io.KnownBytes.{Keeps}
use Rattle.fr_links.specs.Gathering.{LetsGo}
use Rattle.fr_links.proofs.link.Link.let_go.Given as goal

abbrev pub invariant-loop : goal.invariant-loop
invariant-loop g l = record {
  lost : LetsGo (g.S.Wire.remaining l.initial.self.stream) (g.S.Wire.remaining l.self.stream);
  contents : Keeps (g.S.Wire.contents l.initial.self.stream) (g.S.Wire.contents l.self.stream);
  inbox : l.self.inbox ≡ l.initial.self.inbox;
  outbox : l.self.outbox ≡ l.initial.self.outbox;
}
