-- A front of the bytes was written, and the rest is what follows it; the writes that were made led there.
use Rattle.std.proofs.Common.{◌≡◌, ℕ, ◌+◌, ◌≤◌, take, drop, length}
use Rattle.std.specs.Io.KnownBytes.{Appends}
use Rattle.fr_text.specs.Writing.{AreWrites}
use Rattle.fr_text.proofs.output.Output.write_all.Given as goal

abbrev pub invariant-loop-rest : goal.invariant-loop-rest
invariant-loop-rest g l = record {
  same : l.self.writer.ghost_name ≡ l.initial.self.writer.ghost_name;
  retries : l.self.retries ≤ l.initial.self.retries;
  n : ℕ;
  fits : n ≤ length l.bytes;
  rest : l.rest ≡ drop n l.bytes;
  front : Appends (g.W.Write.contents l.initial.self.writer.now) (g.W.Write.contents l.self.writer.now) (take n l.bytes);
  count : ℕ;
  made :
      AreWrites g.W.Sink.writes count (record { writer = l.initial.self.writer.now; retries = l.initial.self.retries; rest = l.bytes })
      (record { writer = l.self.writer.now; retries = l.self.retries; rest = l.rest });
}

abbrev pub decreases-loop-rest : goal.decreases-loop-rest
decreases-loop-rest g l = length l.rest + l.self.retries
