use Rattle.std.proofs.Common.{◌∙◌, ap}
use Rattle.std.specs.Prelude.{option_and_then}
use Rattle.fr_cli.specs.Reports.{asked_in, asked_with}
use Rattle.fr_cli.proofs.words.reports.asked_with.Goals as goal

pub returns-in_err-form_of : goal.returns-in_err-form_of
unfolding asked_with
returns-in_err-form_of c = c.from_residual.ensures ∙ ap (option_and_then asked_in) c.in_err-form_of.ensures

pub returns : goal.returns
unfolding asked_with
returns c = c.asked_in.ensures ∙ ap (option_and_then asked_in) c.in_ok-form_of.ensures
