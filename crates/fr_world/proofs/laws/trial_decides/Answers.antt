use Rattle.fr_world.proofs.TrialsDecide.{trial-decides}
use Rattle.fr_world.proofs.laws.trial_decides.Goals as goal

pub returns : goal.returns
returns c = trial-decides
