use Rattle.std.proofs.Common.{◌≡◌, ◌<◌, ◌-◌, ◌/◌, ◌%◌, length, get_or, map, drop, sym, ◌∙◌, ap, arith}
use Rattle.std.proofs.lemmas.Nat.{pow_pos}
use Rattle.std.proofs.lemmas.Nat.Bits.{bit_at-lt}
use Rattle.fr_base.specs.Bits.{bits_of, payload_bit, from_bits, value_in}
use Rattle.fr_layout.proofs.BitsLemmas.{length-bits_of}
use Rattle.fr_layout.proofs.PayloadLemmas.{read_more, read_none, read_bound, bit_of_bool}
use Rattle.fr_layout.proofs.payload.read.Goals as goal

pub loop-index-init : goal.loop-index-init
loop-index-init c = record {
  value = read_none (payload_bit c.args.bytes.now) (bits_of c.args.signal) c.length-index.result (length-bits_of c.args.signal ∙ sym c.length-index.ensures.value);
  bound = pow_pos (c.args.signal.length - c.length-index.result);
}

pub has_bit-bit-requires : goal.has_bit-bit-requires
has_bit-bit-requires c =
    let within : c.loop-index.index - 1 < length (bits_of c.args.signal) = omega (arith, length-bits_of c.args.signal) in
    omega (arith, c.position.ensures, c.requires (c.loop-index.index - 1) 0 within)

pub loop-index-preserved : goal.loop-index-preserved
loop-index-preserved c =
    let below : payload_bit c.args.bytes.now c.position.result < 2 = bit_at-lt (get_or c.args.bytes.now (c.position.result / 8) 0) (c.position.result % 8) in
    let bit : c.from.result ≡ payload_bit c.args.bytes.now c.position.result =
    c.from.ensures ∙ bit_of_bool c.has_bit-bit.result (payload_bit c.args.bytes.now c.position.result) c.has_bit-bit.ensures below in
    record {
      value =
          read_more (payload_bit c.args.bytes.now) (bits_of c.args.signal) c.loop-index.index (c.loop-index.index - 1) c.loop-index.value c.from.result
          (omega arith) (omega (arith, length-bits_of c.args.signal)) c.loop-index.invariant.value (bit ∙ ap (payload_bit c.args.bytes.now) c.position.ensures);
      bound =
          read_bound c.loop-index.value c.from.result c.args.signal.length c.loop-index.index (omega arith) (omega arith) c.loop-index.invariant.bound (omega (arith, bit, below));
    }

pub returns : goal.returns
unfolding value_in
returns c =
    let done : c.loop-index.index ≡ 0 = omega arith in
    c.loop-index.invariant.value ∙ ap (λ n. from_bits (map (payload_bit c.args.bytes.now) (drop n (bits_of c.args.signal)))) done
