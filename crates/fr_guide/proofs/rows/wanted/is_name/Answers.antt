use Rattle.std.proofs.Common.{◌∙◌, ap}
use Rattle.std.specs.Prelude.{is_some}
use Rattle.fr_guide.proofs.FormedRows.{name_found, no_name_in}
use Rattle.fr_guide.proofs.rows.wanted.is_name.Goals as goal

pub returns-in-Ok : goal.returns-in-Ok
returns-in-Ok c = c.is_some.ensures ∙ ap is_some c.read.ensures ∙ name_found _ _ _ c.in-Ok.ensures

pub returns-in-Err : goal.returns-in-Err
returns-in-Err c = no_name_in _ _ _ c.in-Err.ensures
