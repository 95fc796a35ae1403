-- Only fields of other names were passed over.
use Rattle.std.proofs.Common.{◌≡◌, length, map, All}
use Rattle.httparse.specs.Spans.{IsHeaderWithin, header_bytes}
use Rattle.fr_http.specs.Head.{values}
use Rattle.fr_http.proofs.head.ValuesIterator.next.Given as goal

abbrev pub invariant-loop-self : goal.invariant-loop-self
invariant-loop-self l = record {
  same : values l.initial.self-inside.name.now (map (header_bytes l.initial.self-inside.bytes.now) l.initial.self-inside.fields.now)
      ≡ values l.self-inside.name.now (map (header_bytes l.self-inside.bytes.now) l.self-inside.fields.now);
  within : All (IsHeaderWithin (length l.self-inside.bytes.now)) l.self-inside.fields.now;
}

abbrev pub decreases-loop-self : goal.decreases-loop-self
decreases-loop-self l = length l.self-inside.fields.now
