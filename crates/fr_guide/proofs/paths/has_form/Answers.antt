use Rattle.std.proofs.Common.{◌≡◌, length, rules}
use Rattle.fr_guide.proofs.PathLemmas.{has_form_where}
use Rattle.fr_guide.proofs.paths.has_form.Goals as goal

pub returns-then-form-texts : goal.returns-then-form-texts
returns-then-form-texts c =
    let as_many : length c.args.form.now ≡ length c.args.texts.now = search rules in
    has_form_where c.args.form.now c.args.texts.now c.all_stand.result as_many c.all_stand.ensures
