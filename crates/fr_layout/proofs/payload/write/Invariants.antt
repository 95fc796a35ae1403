use Rattle.std.proofs.Common.{◌≡◌, ℕ, take}
use Rattle.fr_base.specs.Bits.{bits_of, payload_bit}
use Rattle.fr_layout.proofs.BitsLemmas.{put_over}
use Rattle.fr_layout.proofs.payload.write.Given as goal

abbrev pub invariant-loop-index : goal.invariant-loop-index
invariant-loop-index l = (p : ℕ) → payload_bit l.bytes p ≡ put_over (take l.index (bits_of l.signal)) l.fn.value p (payload_bit l.initial.bytes p)
