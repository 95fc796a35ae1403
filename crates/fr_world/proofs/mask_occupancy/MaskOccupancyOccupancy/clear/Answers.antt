use Rattle.std.proofs.Common.{sym, subst}
use Rattle.fr_world.specs.Masks.{AreFilled, ShowFilled, word_on}
use Rattle.fr_world.proofs.MaskLaws.{shown-without}
use Rattle.fr_world.proofs.RowLaws.{pairs}
use Rattle.fr_world.proofs.mask_occupancy.MaskOccupancyOccupancy.clear.Goals as goal

pub invariant_of-self : goal.invariant_of-self
invariant_of-self c =
    let q = c.args.placement.now in
    subst (λ ps. ShowFilled ps c.put.new.self.slots.entries) (sym c.clear.ensures)
    (shown-without (pairs c.self.inside.rows.rows.items) c.args.frame q c.self.inside.masks.slots.entries c.put.new.self.slots.entries c.filled_in-filled.result c.self.invariant c.put.ensures
    (λ x. subst (λ ps. AreFilled ps q.slot x (word_on x c.filled_in-filled.result)) c.clear.ensures (c.filled_in-filled.ensures x)))
