use Rattle.std.proofs.Common.{◌≡◌, ◌<◌, ◌∙◌, length, get_or, sym, ap, arith}
use Rattle.fr_base.specs.Cycles.{is_bit_set}
use Rattle.fr_base.specs.Schedule.{fill}
use Rattle.fr_world.specs.Masks.{word_on}
use Rattle.fr_world.proofs.MaskLaws.{no_words, row-elsewhere, row-marked}
use Rattle.fr_world.proofs.row_occupancy.RowOccupancy.filled_in.Goals as goal
use Rattle.fr_world.proofs.row_occupancy.RowOccupancy.filled_in.Goals.{then-eq, else-eq}

pub loop-row-init : goal.loop-row-init
unfolding fill
loop-row-init c x k = no_words x k

pub loop-row-preserved : goal.loop-row-preserved
loop-row-preserved c =
    let rows = c.args.self.now.rows.items in
    let i = c.loop-row.row-index in
    let row = c.row-item.result in
    let low : i < length rows = omega (arith, c.loop-row-test.true, ap length c.deref-row-items.ensures.value) in
    let is : row ≡ get_or rows i row = c.row-item.is ∙ ap (λ rs. get_or rs i row) c.deref-row-items.ensures.value in
    elim c.if-eq.branch [
      | then-eq w ↦ λ x k. ap (λ f. is_bit_set (word_on x f) k) w.filled-is ∙ row-marked rows i row c.args.slot low is c.loop-row.filled w.mark.new.self (sym c.eq.ensures ∙ w.if-eq.true) c.loop-row.invariant w.mark.ensures x k
      | else-eq w ↦ λ x k. ap (λ f. is_bit_set (word_on x f) k) w.filled-is ∙ row-elsewhere rows i row c.args.slot low is c.loop-row.filled (sym c.eq.ensures ∙ w.if-eq.false) c.loop-row.invariant x k
    ]
