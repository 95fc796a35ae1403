use Rattle.std.proofs.Common.{◌∙◌, cond, sym, ap, bit_or}
use Rattle.fr_world.specs.declared.filled_cycles.FilledCycles.{FilledCycles}
use Rattle.fr_world.proofs.MaskLaws.{both_marked}
use Rattle.fr_world.proofs.filled_cycles.FilledCycles.mark.Goals as goal
use Rattle.fr_world.proofs.filled_cycles.FilledCycles.mark.Goals.{then-has, else-has}

pub returns-then-has-2 : goal.returns-then-has-2
returns-then-has-2 c =
    let old : FilledCycles = c.args.self.now in
    let q = c.args.placement.now in
    let mask = c.mask-mask.result in
    elim c.if-has.branch [
      | then-has w ↦ both_marked q old (record { a = c.if-has.self.a; b = bit_or c.if-has.self.b mask }) mask c.mask-mask.ensures
          (ap (λ s. s.a) w.self-is ∙ sym (ap (λ b. cond b (bit_or old.a mask) old.a) (sym c.has.ensures ∙ w.if-has.true)))
          (ap (λ s. bit_or s.b mask) w.self-is ∙ sym (ap (λ b. cond b (bit_or old.b mask) old.b) (sym c.has-2.ensures ∙ c.if-has-2.true)))
      | else-has w ↦ both_marked q old (record { a = c.if-has.self.a; b = bit_or c.if-has.self.b mask }) mask c.mask-mask.ensures
          (ap (λ s. s.a) w.self-is ∙ sym (ap (λ b. cond b (bit_or old.a mask) old.a) (sym c.has.ensures ∙ w.if-has.false)))
          (ap (λ s. bit_or s.b mask) w.self-is ∙ sym (ap (λ b. cond b (bit_or old.b mask) old.b) (sym c.has-2.ensures ∙ c.if-has-2.true)))
    ]

pub returns-else-has-2 : goal.returns-else-has-2
returns-else-has-2 c =
    let old : FilledCycles = c.args.self.now in
    let q = c.args.placement.now in
    let mask = c.mask-mask.result in
    elim c.if-has.branch [
      | then-has w ↦ both_marked q old c.if-has.self mask c.mask-mask.ensures
          (ap (λ s. s.a) w.self-is ∙ sym (ap (λ b. cond b (bit_or old.a mask) old.a) (sym c.has.ensures ∙ w.if-has.true)))
          (ap (λ s. s.b) w.self-is ∙ sym (ap (λ b. cond b (bit_or old.b mask) old.b) (sym c.has-2.ensures ∙ c.if-has-2.false)))
      | else-has w ↦ both_marked q old c.if-has.self mask c.mask-mask.ensures
          (ap (λ s. s.a) w.self-is ∙ sym (ap (λ b. cond b (bit_or old.a mask) old.a) (sym c.has.ensures ∙ w.if-has.false)))
          (ap (λ s. s.b) w.self-is ∙ sym (ap (λ b. cond b (bit_or old.b mask) old.b) (sym c.has-2.ensures ∙ c.if-has-2.false)))
    ]
