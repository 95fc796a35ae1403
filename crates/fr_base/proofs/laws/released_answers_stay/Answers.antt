use Rattle.fr_base.proofs.ReleasedSteps.{run-keeps_answers}
use Rattle.fr_base.proofs.laws.released_answers_stay.Goals as goal

pub returns : goal.returns
returns c = run-keeps_answers
