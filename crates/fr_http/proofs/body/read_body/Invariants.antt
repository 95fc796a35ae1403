-- The body so far is what came of it.
use Rattle.std.proofs.Common.{◌≡◌, ◌≤◌, ◌-◌, ◌++◌, List, ℕ, length, take, vec_len}
use Rattle.std.specs.Io.KnownBytes.{Consumes}
use Rattle.fr_http.specs.Reads.{Spends}
use Rattle.fr_http.proofs.body.read_body.Given as goal

abbrev pub invariant-loop-piece : goal.invariant-loop-piece
invariant-loop-piece g l = record {
  same : l.input.reader.ghost_name ≡ l.initial.input.reader.ghost_name;
  size : vec_len l.body ≤ l.length;
  read : List ℕ;
  consumed : Consumes (g.R.Read.remaining l.initial.input.reader.now) (g.R.Read.remaining l.input.reader.now) read;
  front : l.body.items ≡ take l.length (l.begun ++ read);
  few : length read ≤ l.length - length l.begun;
  spends : Spends g.R.Source.reads l.initial.input.reader.now l.initial.input.reads l.input.reader.now l.input.reads;
}

abbrev pub decreases-loop-piece : goal.decreases-loop-piece
decreases-loop-piece g l = l.length - vec_len l.body
