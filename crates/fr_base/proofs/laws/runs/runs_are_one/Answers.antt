use Rattle.fr_base.proofs.RunLaws.{runs-one}
use Rattle.fr_base.proofs.laws.runs.runs_are_one.Goals as goal

pub returns : goal.returns
returns c = runs-one
