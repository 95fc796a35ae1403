use Rattle.std.proofs.Common.{◌∙◌, ap, sym}
use Rattle.std.specs.List.{list_all}
use Rattle.fr_guide.proofs.PathLemmas.{told_as}
use Rattle.fr_guide.proofs.PathLemmas.{behind_references}
use Rattle.fr_guide.proofs.paths.part_faults.Goals as goal
use Rattle.fr_guide.specs.Paths.{is_fine_part}

pub returns : goal.returns
returns c =
    told_as _ _ _ c.pair_faults.ensures
    (sym (ap (λ pairs. list_all (λ both. is_fine_part (both.0.now, both.1.now)) pairs) (c.deref.ensures.value ∙ c.in_ok-pairs.ensures)
    ∙ behind_references is_fine_part c.args.form.now c.args.texts.now))
