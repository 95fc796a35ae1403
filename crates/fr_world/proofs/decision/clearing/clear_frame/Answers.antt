use Rattle.std.proofs.Common.{◌∙◌, refl, subst, sym}
use Rattle.fr_base.specs.Tables.{get}
use Rattle.fr_world.specs.Pages.{own_rows_of}
use Rattle.fr_world.specs.ReplacementDecisions.{AreAdmitted}
use Rattle.fr_world.proofs.FreeingLaws.{clearing-admitted, page-named}
use Rattle.fr_world.proofs.decision.clearing.clear_frame.Goals as goal

pub make_all-requires : goal.make_all-requires
make_all-requires c =
    let page = own_rows_of c.args.draft.now.page in
    let f = c.args.frame in
    let there = get page.frames (page.supplier, f) in
    record {
      admitted = subst (AreAdmitted page f) (sym (c.as_slice.ensures.value ∙ c.in_ok-ends.ensures))
          (clearing-admitted page f c.args.kind c.args.rows.now there refl (page-named page c.frames-frames.ensures.kept.page (page.supplier, f) there refl));
    }
