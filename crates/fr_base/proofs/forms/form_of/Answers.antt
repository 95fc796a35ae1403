use Rattle.std.proofs.Common.{◌∙◌, ap}
use Rattle.std.specs.Prelude.{option_map}
use Rattle.std.specs.Map.{lookup}
use Rattle.std.specs.Str.{bytes_eq}
use Rattle.fr_base.specs.Forms.{form_data, form_of}
use Rattle.fr_base.proofs.FormLemmas.{copied, found}
use Rattle.fr_base.proofs.forms.form_of.Goals as goal

pub returns : goal.returns
unfolding form_of
returns c =
    copied c.find.result ∙ ap (option_map form_data) c.find.ensures ∙ found c.args.word.now c.request_forms.result.now
    ∙ ap (lookup (bytes_eq c.args.word.now)) c.request_forms.ensures
