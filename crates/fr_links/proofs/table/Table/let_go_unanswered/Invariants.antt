-- Connections went, and the others stay.
use Rattle.std.specs.VecDeque.{deque_len}
use Rattle.fr_links.specs.Connections.{AllStay}
use Rattle.fr_links.proofs.table.Table.let_go_unanswered.Given as goal

abbrev pub invariant-loop-key : goal.invariant-loop-key
invariant-loop-key g l = AllStay l.initial.self l.self

abbrev pub invariant-loop-key-2 : goal.invariant-loop-key-2
invariant-loop-key-2 g l = AllStay l.initial.self l.self

abbrev pub decreases-loop-key-2 : goal.decreases-loop-key-2
decreases-loop-key-2 g l = deque_len l.self.ready
