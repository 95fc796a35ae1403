use Rattle.std.proofs.Common.{◌≡◌, ◌-◌, ◌^◌, ◌<◌, map, drop}
use Rattle.fr_base.specs.Bits.{bits_of, payload_bit, from_bits}
use Rattle.fr_layout.proofs.payload.read.Given as goal

abbrev pub invariant-loop-index : goal.invariant-loop-index
invariant-loop-index l = record {
  value : l.value ≡ from_bits (map (payload_bit l.bytes) (drop l.index (bits_of l.signal)));
  bound : l.value < 2 ^ (l.signal.length - l.index);
}
