-- What was read so far does not begin with a head, and may become one.
use Rattle.std.proofs.Common.{◌≡◌, ◌≤◌, ◌-◌, length, vec_len}
use Rattle.std.specs.Io.KnownBytes.{Consumes}
use Rattle.httparse.specs.Grammar.{HasNoRequest, MayBecomeRequest}
use Rattle.fr_http.specs.Reads.{Spends}
use Rattle.fr_http.proofs.receive.receive.Given as goal

abbrev pub invariant-loop-fields : goal.invariant-loop-fields
invariant-loop-fields g l = record {
  same : l.input.reader.ghost_name ≡ l.initial.input.reader.ghost_name;
  room : length l.fields ≡ 64;
  size : vec_len l.bytes ≤ 8192;
  consumed : Consumes (g.R.Read.remaining l.initial.input.reader.now) (g.R.Read.remaining l.input.reader.now) l.bytes.items;
  none : HasNoRequest l.bytes.items;
  unfinished : MayBecomeRequest l.bytes.items;
  spends : Spends g.R.Source.reads l.initial.input.reader.now l.initial.input.reads l.input.reader.now l.input.reads;
}

abbrev pub decreases-loop-fields : goal.decreases-loop-fields
decreases-loop-fields g l = 8192 - vec_len l.bytes
