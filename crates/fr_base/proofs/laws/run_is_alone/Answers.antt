use Rattle.fr_base.proofs.AloneRuns.{run-alone}
use Rattle.fr_base.proofs.laws.run_is_alone.Goals as goal

pub returns : goal.returns
returns c = λ cluster b last asks answers s sound run. run-alone cluster s b last asks answers sound run
