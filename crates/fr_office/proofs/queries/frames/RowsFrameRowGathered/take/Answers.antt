use Rattle.std.proofs.Common.{◌∙◌, ◌++◌, [], ◌∷◌, ap}
use Rattle.fr_base.specs.Queries.{frame_row, frames_of}
use Rattle.fr_office.proofs.GatherLaws.{takes-rows}
use Rattle.fr_office.proofs.PageRows.{frames_shown, frames-page, entry}
use Rattle.fr_office.proofs.ShownLaws.{shown-all}
use Rattle.fr_office.proofs.queries.frames.RowsFrameRowGathered.take.Goals as goal

pub loop-name-init : goal.loop-name-init
loop-name-init c =
    ap (λ more. c.args.self.now ++ more)
    ((λ i. frames_shown (λ e. frame_row e ∷ []) (c.supplier-supplier.ensures i) ((c.into_iter-name-iterator.ensures.into_iter_gives ∙ c.iter-name-items.ensures.rest) i))
    ∙ frames-page c.args.page.now c.frames.result.now.entries c.frames.ensures.value c.iter-name-items.ensures.ordered)

pub returns : goal.returns
returns c =
    takes-rows (λ p t. frames_of t) c.args.page.now c.args.self.now c.loop-name.self
    (shown-all (λ e. frame_row (entry c.supplier-supplier.result e) ∷ []) c.loop-name.name-iterator c.loop-name.self _ c.in-None.ensures.steps.0 c.loop-name.invariant)
