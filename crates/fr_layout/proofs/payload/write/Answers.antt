use Rattle.std.proofs.Common.{◌<◌, length, refl, ◌∙◌, ap, arith}
use Rattle.std.proofs.lemmas.List.{take_all}
use Rattle.fr_base.specs.Bits.{bits_of, payload_bit}
use Rattle.fr_layout.proofs.BitsLemmas.{put_over, length-bits_of}
use Rattle.fr_layout.proofs.PayloadLemmas.{write_more}
use Rattle.fr_layout.proofs.payload.write.Goals as goal

pub put_bit-requires : goal.put_bit-requires
put_bit-requires c =
    let within : c.loop-index.index < length (bits_of c.args.signal) = omega (arith, length-bits_of c.args.signal) in
    omega (arith, c.position.ensures, c.requires c.loop-index.index 0 within)

pub loop-index-preserved : goal.loop-index-preserved
loop-index-preserved c =
    λ p. write_more c.args.signal c.args.value c.loop-index.index p (payload_bit c.args.bytes.now p) c.position.result (payload_bit c.loop-index.bytes p) (payload_bit c.put_bit.new.bytes p) _
    (omega arith) c.position.ensures refl (c.loop-index.invariant p) (c.put_bit.ensures p)

pub returns-clause-bits : goal.returns-clause-bits
returns-clause-bits c =
    λ p. c.loop-index.invariant p
    ∙ ap (λ qs. put_over qs c.args.value p (payload_bit c.args.bytes.now p)) (take_all c.loop-index.index (bits_of c.args.signal) (omega (arith, length-bits_of c.args.signal)))
