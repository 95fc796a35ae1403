use Rattle.std.proofs.Common.{◌∙◌, ◌++◌, sym, ap}
use Rattle.fr_world.specs.PageEdits.{coming}
use Rattle.fr_world.specs.Pages.{own_rows_of}
use Rattle.fr_world.proofs.ClearingLaws.{entry_rows, page_rows}
use Rattle.fr_world.proofs.decision.page_edits.push_coming.Goals as goal

pub loop-name-init : goal.loop-name-init
loop-name-init c =
    let page = c.args.page.now in
    let before = c.args.edits.now.items in
    let others = (own_rows_of c.args.other.now).frames in
    ap (λ es. before ++ coming page.supplier page.variant others (entry_rows page.supplier es)) (c.into_iter-name-iterator.ensures.into_iter_gives ∙ c.iter-name-items.ensures.rest)
    ∙ ap (λ rows. before ++ coming page.supplier page.variant others rows) (sym (page_rows page c.frames.result.now.entries c.frames.ensures.value c.iter-name-items.ensures.ordered))
