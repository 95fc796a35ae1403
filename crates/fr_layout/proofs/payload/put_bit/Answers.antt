use Rattle.std.proofs.Common.{◌*◌, ◌/◌, ◌%◌, ◌^◌, ℕ, w8, sym, ◌∙◌, ap, arith, cond, bit_or, bit_and, slice_index_or, ◌-◌}
use Rattle.std.proofs.lemmas.Nat.Bits.{bit_at_set_same, bit_at_set_other, bit_at_clear_same, bit_at_clear_other}
use Rattle.fr_layout.proofs.PayloadLemmas.{payload_bit-set}
use Rattle.fr_layout.proofs.payload.put_bit.Goals as goal

pub returns-then-bit : goal.returns-then-bit
returns-then-bit c =
    let n : ℕ = slice_index_or c.args.bytes.now (c.args.position / 8) 0 in
    let k : ℕ = c.args.position % 8 in
    λ p. payload_bit-set c.args.bytes.now c.args.position p (bit_or n (1 * 2 ^ k % 256)) (cond c.args.bit 1 0) c.requires
    (bit_at_set_same w8 n k (omega arith) ∙ sym (ap (λ b. cond b 1 0) c.if-bit.true))
    (λ i within other. bit_at_set_other w8 n k (omega arith) i other)

pub returns-else-bit : goal.returns-else-bit
returns-else-bit c =
    let n : ℕ = slice_index_or c.args.bytes.now (c.args.position / 8) 0 in
    let k : ℕ = c.args.position % 8 in
    λ p. payload_bit-set c.args.bytes.now c.args.position p (bit_and n (255 - 1 * 2 ^ k % 256)) (cond c.args.bit 1 0) c.requires
    (bit_at_clear_same w8 n k (omega arith) ∙ sym (ap (λ b. cond b 1 0) c.if-bit.false))
    (λ i within other. bit_at_clear_other w8 n k (omega arith) i within other)
