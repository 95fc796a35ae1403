-- Each connection went on by itself.
use Rattle.fr_links.specs.Turning.{GoesOn}
use Rattle.fr_links.proofs.table.Table.go_on_each.Given as goal

abbrev pub invariant-loop-event : goal.invariant-loop-event
invariant-loop-event g l = GoesOn g.S.Wire.remaining g.S.Wire.contents (g.J.Judge.tells l.judge) l.initial.self l.self
