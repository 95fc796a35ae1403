use Rattle.std.proofs.Common.{get_or, take, arith, refl, ap, ◌∙◌}
use Rattle.std.proofs.lemmas.List.{take_all}
use Rattle.fr_base.specs.Bits.{image_bit, payload_bit}
use Rattle.fr_layout.proofs.ImageLemmas.{image_of_bits}
use Rattle.fr_layout.proofs.SignalsLemmas.{put_more}
use Rattle.fr_layout.proofs.signals.put_all.Goals as goal

pub loop-index-preserved : goal.loop-index-preserved
loop-index-preserved c = record {
  bits = λ p. put_more c.args.signals.now c.args.values.now c.loop-index.index p (payload_bit c.loop-index.bytes p) (payload_bit c.write.new.bytes p) (get_or c.args.values.now c.loop-index.index 0) c.index-signals-index.result
      c.requires.apart (omega arith) (omega arith) c.index-signals-index.is refl (c.loop-index.invariant.bits p) (c.write.ensures.bits p);
  small = λ j. omega (arith, c.type_inv.bytes j);
}

pub returns : goal.returns
returns c =
    image_of_bits c.args.words c.args.signals.now c.args.values.now c.loop-index.bytes (omega arith) c.loop-index.invariant.small
    (λ p. c.loop-index.invariant.bits p
    ∙ (ap (λ xs. image_bit xs (take c.loop-index.index c.args.values.now) p) (take_all c.loop-index.index c.args.signals.now (omega arith))
    ∙ ap (λ vs. image_bit c.args.signals.now vs p) (take_all c.loop-index.index c.args.values.now (omega arith))))
