use Rattle.std.proofs.Common.{sym, subst}
use Rattle.fr_world.specs.Edits.{Takes}
use Rattle.fr_world.specs.Pages.{own_rows_of}
use Rattle.fr_world.specs.declared.edit.Edit.TheVariants.{SetReleased}
use Rattle.fr_world.proofs.AmendTakes.{release_takes}
use Rattle.fr_tests.proofs.world.release.Goals as goal

pub amend-requires : goal.amend-requires
amend-requires c =
    let page = c.args.page.now in
    record { takes = subst (λ v. Takes page.variant (own_rows_of page) (SetReleased v)) (sym c.variant-variant.ensures) (release_takes page c.frames-frames.ensures.kept) }
