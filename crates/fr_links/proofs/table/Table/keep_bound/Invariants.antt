-- Connections went, and the others stay; none comes to wait before another.
use Rattle.fr_links.specs.Connections.{AllStay, Queues}
use Rattle.fr_links.proofs.table.Table.keep_bound.Given as goal

abbrev pub invariant-loop : goal.invariant-loop
invariant-loop g l = record { stay : AllStay l.initial.self l.self; queue : Queues l.initial.self l.self }
