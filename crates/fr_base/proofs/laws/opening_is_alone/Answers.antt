use Rattle.std.proofs.Common.{sym}
use Rattle.fr_base.proofs.AloneRuns.{opening-alone}
use Rattle.fr_base.proofs.laws.opening_is_alone.Goals as goal

pub returns : goal.returns
returns c = λ cluster s. sym (opening-alone cluster s)
