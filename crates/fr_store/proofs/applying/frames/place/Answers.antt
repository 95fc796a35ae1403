use Rattle.fr_tables.specs.Statements.{placement_row, with_placement}
use Rattle.fr_base.specs.declared.request.FrameChange.TheVariants.{Place}
use Rattle.fr_store.proofs.CallLemmas.{own_then}
use Rattle.fr_store.proofs.FrameEditLemmas.{place_fits, placed}
use Rattle.fr_store.proofs.applying.frames.place.Goals as goal

pub returns : goal.returns
returns g c =
    let key = c.args.key.now in
    own_then (with_placement (placement_row key c.args.placement.now)) key.variant key.supplier key.frame (Place c.args.placement.now) _ c.in_ok-make_own.ensures c.insert.ensures c.done.ensures (λ there fits. let fit = place_fits there c.args.placement.now fits in (fit.0, fit.1))
    (λ changed cluster b x frame stands is there own fits counted. placed key.variant key.supplier key.frame _ _ cluster b x stands is own c.args.placement.now fits counted changed)
