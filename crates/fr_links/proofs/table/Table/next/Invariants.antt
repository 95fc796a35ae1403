-- No connection was given out yet: those that were passed are not to be answered.
use Rattle.std.proofs.Common.{◌≡◌, ◌++◌, List, ℕ}
use Rattle.std.specs.List.{AllByRecursion}
use Rattle.std.specs.VecDeque.{deque_len}
use Rattle.fr_links.specs.Connections.{IsUnready, at}
use Rattle.fr_links.proofs.table.Table.next.Given as goal

abbrev pub invariant-loop-key : goal.invariant-loop-key
invariant-loop-key g l = record {
  links : l.self.links ≡ l.initial.self.links;
  passed : List ℕ;
  unready : AllByRecursion (λ k. IsUnready (at l.initial.self k)) passed;
  front : l.initial.self.ready.items ≡ passed ++ l.self.ready.items;
}

abbrev pub decreases-loop-key : goal.decreases-loop-key
decreases-loop-key g l = deque_len l.self.ready
