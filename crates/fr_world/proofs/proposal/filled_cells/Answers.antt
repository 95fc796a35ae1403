use Rattle.std.proofs.Common.{◌∙◌, ◌++◌, sym}
use Rattle.fr_world.specs.Counts.{is_freed}
use Rattle.fr_world.proofs.FreedRows.{beside-filled, filled_entries}
use Rattle.fr_world.proofs.KeyLaws.{frames_rise}
use Rattle.fr_world.proofs.proposal.filled_cells.Goals as goal

pub loop-name-init : goal.loop-name-init
loop-name-init c =
    let page = c.args.page.now in
    let freed = is_freed c.args.replace c.args.reads.now in
    let es = c.frames.result.now.entries in
    (λ i. c.new-cells.ensures i ++ filled_entries freed ((c.into_iter-name-iterator.ensures.into_iter_gives ∙ c.iter-name-items.ensures.rest) i))
    ∙ sym (beside-filled page c.args.replace c.args.reads.now es c.frames.ensures.value (frames_rise es page.frames c.frames.ensures.value c.iter-name-items.ensures.ordered) c.frames.ensures.kept.order.frames.placements)
