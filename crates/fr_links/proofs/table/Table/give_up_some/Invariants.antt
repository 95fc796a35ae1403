-- Connections are to be answered, and the others stay; none comes to wait before another.
use Rattle.fr_links.specs.Connections.{AllStay, Queues}
use Rattle.fr_links.proofs.table.Table.give_up_some.Given as goal

abbrev pub invariant-loop-given_up : goal.invariant-loop-given_up
invariant-loop-given_up g l = record { stay : AllStay l.initial.self l.self; queue : Queues l.initial.self l.self }
