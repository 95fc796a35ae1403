use Rattle.std.proofs.Common.{◌≡◌, ◌<◌, ◌^◌, ℕ, take, get_or}
use Rattle.fr_base.specs.Bits.{image_bit, payload_bit}
use Rattle.fr_layout.proofs.signals.put_all.Given as goal

abbrev pub invariant-loop-index : goal.invariant-loop-index
invariant-loop-index l = record {
  bits : (p : ℕ) → payload_bit l.bytes p ≡ image_bit (take l.index l.signals) (take l.index l.values) p;
  small : (j : ℕ) → get_or l.bytes j 0 < 2 ^ 8;
}
