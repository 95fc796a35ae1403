use Rattle.fr_picture.proofs.PageLemmas.{page_of}
use Rattle.fr_picture.proofs.page.write_page.Goals as goal

pub returns : goal.returns
returns c =
    page_of c.args.plan.now c.in_ok-drawing.drawing c.in_ok-entries.entries.items _ c.in_ok-slots.slots.items _ c.in_ok-shares.shares.items _ _ _ _ _ _ _ _
    c.as_slice-grants.ensures c.as_slice-cells.ensures c.as_slice-names.ensures.value c.as_slice.ensures.value c.rows_of-changes.ensures
    c.in_ok-drawing.ensures c.in_ok-entries.ensures c.in_ok-slots.ensures
    c.as_slice-2.ensures.value c.as_slice-3.ensures.value c.cycles.ensures.value c.in_ok-shares.ensures c.as_slice-4.ensures.value c.in_ok-text.ensures
