use Rattle.std.proofs.Common.{◌∙◌, List, refl, subst, sym}
use Rattle.fr_base.specs.Step.{frame_of_row, kind_of_row}
use Rattle.fr_base.specs.Tables.{get}
use Rattle.fr_base.specs.declared.name.Name.{Name}
use Rattle.fr_base.specs.declared.request.FrameChange.{FrameChange}
use Rattle.fr_world.specs.Pages.{own_rows_of}
use Rattle.fr_world.specs.ReplacementDecisions.{AreAdmitted, freeing}
use Rattle.fr_world.proofs.FreeingLaws.{freeing-admitted, page-named}
use Rattle.fr_world.proofs.decision.replacement.free_row.Goals as goal

pub make_all-requires : goal.make_all-requires
make_all-requires c =
    let page = own_rows_of c.args.draft.now.page in
    let row = c.args.row.now in
    let f = frame_of_row row in
    let there = get page.frames (page.supplier, f) in
    record {
      admitted = subst (λ (z : Name × List FrameChange). AreAdmitted page z.0 z.1) (λ i. (sym c.named_frame-frame.ensures i, sym (c.as_slice.ensures.value ∙ c.in_ok-ends.ensures ∙ (λ j. freeing (c.kind_of.ensures j) (get page.frames (page.supplier, c.named_frame-frame.ensures j)))) i))
          (freeing-admitted page f (kind_of_row row) there refl (page-named page c.frames-frames.ensures.kept.page (page.supplier, f) there refl));
    }
