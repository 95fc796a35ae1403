-- Each connection went on by itself, or came in.
use Rattle.std.proofs.Common.{◌≡◌}
use Rattle.fr_links.specs.Turning.{Reached}
use Rattle.fr_links.proofs.links.Links.accept.Given as goal

abbrev pub invariant-loop : goal.invariant-loop
invariant-loop g l = record {
  reached : Reached g.P.Stream.Wire.remaining g.P.Stream.Wire.contents g.P.Port.fresh (g.J.Judge.tells l.fn.self.judge) l.fn.self.table l.self.table;
  judge : l.self.judge ≡ l.fn.self.judge;
}
