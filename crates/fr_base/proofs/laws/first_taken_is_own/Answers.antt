use Rattle.fr_base.proofs.AloneCells.{first_taken-alone}
use Rattle.fr_base.proofs.laws.first_taken_is_own.Goals as goal

pub returns : goal.returns
returns c = first_taken-alone
