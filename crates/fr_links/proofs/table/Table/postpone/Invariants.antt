-- Connections went, and the others stay; none comes to wait before another.
use Rattle.std.proofs.Common.{◌≡◌}
use Rattle.fr_links.specs.Connections.{AllStay, Queues}
use Rattle.fr_links.proofs.table.Table.postpone.Given as goal

abbrev pub invariant-loop-key : goal.invariant-loop-key
invariant-loop-key g l = record { stay : AllStay l.initial.self l.self; vacant : l.self.links.vacant_key ≡ l.initial.self.links.vacant_key; queue : Queues l.initial.self l.self }
