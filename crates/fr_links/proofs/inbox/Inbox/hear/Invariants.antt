-- What was read so far stands behind what had come, and nothing went out.
use Rattle.std.proofs.Common.{◌≡◌, ◌++◌, ◌-◌, List, ℕ}
use Rattle.std.specs.Io.KnownBytes.{Consumes, Keeps}
use Rattle.fr_links.specs.Gathering.{IsTold}
use Rattle.fr_links.proofs.inbox.Inbox.hear.Given as goal

abbrev pub invariant-loop-self : goal.invariant-loop-self
invariant-loop-self g l = record {
  read : List ℕ;
  consumed : Consumes (g.S.Wire.remaining l.initial.stream) (g.S.Wire.remaining l.stream) read;
  gathered : l.self.came.items ≡ l.initial.self.came.items ++ read;
  told : IsTold (g.J.Judge.tells l.judge) l.initial.self.need l.initial.self.came.items → IsTold (g.J.Judge.tells l.judge) l.self.need l.self.came.items;
  quiet : Keeps (g.S.Wire.contents l.initial.stream) (g.S.Wire.contents l.stream);
}

abbrev pub decreases-loop-self : goal.decreases-loop-self
decreases-loop-self g l = 100000 - l.self.reads
