-- Nothing was read so far: each read was interrupted.
use Rattle.std.proofs.Common.{◌≡◌, ℕ, ◌+◌, ◌≤◌}
use Rattle.std.specs.Io.KnownBytes.{Keeps}
use Rattle.fr_http.specs.Reads.{AreInterrupted}
use Rattle.fr_http.proofs.input.Input.read.Given as goal

abbrev pub invariant-loop-self : goal.invariant-loop-self
invariant-loop-self g l = record {
  same : l.self.reader.ghost_name ≡ l.initial.self.reader.ghost_name;
  reads : l.self.reads ≤ l.initial.self.reads;
  kept : Keeps (g.R.Read.remaining l.initial.self.reader.now) (g.R.Read.remaining l.self.reader.now);
  count : ℕ;
  interrupted : AreInterrupted g.R.Source.reads count l.initial.self.reader.now l.self.reader.now;
  counted : l.self.reads + count ≡ l.initial.self.reads;
}

abbrev pub decreases-loop-self : goal.decreases-loop-self
decreases-loop-self g l = l.self.reads
