use Rattle.fr_tables.specs.Statements.{placement_row, without_placement}
use Rattle.fr_base.specs.declared.request.FrameChange.TheVariants.{Unplace}
use Rattle.fr_store.proofs.CallLemmas.{own_then}
use Rattle.fr_store.proofs.FrameEditLemmas.{unplace_fits, unplaced}
use Rattle.fr_store.proofs.applying.frames.unplace.Goals as goal

pub returns : goal.returns
returns g c =
    let key = c.args.key.now in
    own_then (without_placement (placement_row key c.args.placement.now)) key.variant key.supplier key.frame (Unplace c.args.placement.now) _ c.in_ok-make_own.ensures c.delete.ensures c.done.ensures (λ there fits. let fit = unplace_fits there c.args.placement.now fits in (fit.0, fit.1))
    (λ changed cluster b x frame stands is there own fits counted. unplaced key.variant key.supplier key.frame _ _ cluster b x stands is own c.args.placement.now fits changed)
