-- What was due went out as far as it is not due now.
use Rattle.std.proofs.Common.{◌≡◌, drop}
use Rattle.std.specs.Io.KnownBytes.{Keeps}
use Rattle.fr_links.specs.Sending.{GoesOut}
use Rattle.fr_links.proofs.outbox.Outbox.send.Given as goal

abbrev pub invariant-loop : goal.invariant-loop
invariant-loop g l = record {
  out : GoesOut (g.S.Wire.contents l.initial.stream) (g.S.Wire.contents l.stream)
      (drop l.initial.self.sent l.initial.self.kept.items) (drop l.self.sent l.self.kept.items);
  ahead : l.self.ahead ≡ l.initial.self.ahead;
  passed : l.self.passed ≡ l.initial.self.passed;
  remaining : Keeps (g.S.Wire.remaining l.initial.stream) (g.S.Wire.remaining l.stream);
}
