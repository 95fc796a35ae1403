use Rattle.std.proofs.Common.{◌≡◌, ◌∙◌, ap, map, sym}
use Rattle.std.specs.List.{list_all, zip}
use Rattle.fr_guide.proofs.PathLemmas.{told_as}
use Rattle.fr_guide.proofs.PathLemmas.{with_form, without_form}
use Rattle.fr_guide.proofs.paths.path_faults.Goals as goal
use Rattle.fr_guide.specs.Paths.{is_fine_part, parts_of}

pub returns-in-Some : goal.returns-in-Some
returns-in-Some c =
    let parts : map (λ text. text.now) c.deref.result.now ≡ parts_of c.args.path.now = ap (λ texts. map (λ text. text.now) texts) c.deref.ensures.value ∙ c.in_ok-texts.ensures in
    let same : c.deref-in-Some.result.now ≡ c.deref.result.now = c.deref-in-Some.ensures.value ∙ sym c.deref.ensures.value in
    told_as _ _ _ c.part_faults.ensures
    (sym (ap (λ texts. list_all is_fine_part (zip (map (λ part. part.now) c.in-Some.form.now) (map (λ text. text.now) texts))) same ∙ with_form c.args.path.now (map (λ text. text.now) c.deref.result.now) c.path_forms.result c.fitting.result c.in-Some.form parts c.path_forms.ensures c.fitting.ensures c.in-Some.is))

pub returns : goal.returns
returns c =
    let parts : map (λ text. text.now) c.deref.result.now ≡ parts_of c.args.path.now = ap (λ texts. map (λ text. text.now) texts) c.deref.ensures.value ∙ c.in_ok-texts.ensures in
    told_as _ _ _ c.no_form.ensures (sym (without_form c.args.path.now (map (λ text. text.now) c.deref.result.now) c.path_forms.result c.fitting.result parts c.path_forms.ensures c.fitting.ensures c.in-None.is))
