use Rattle.fr_base.proofs.KnownSteps.{run-knows}
use Rattle.fr_base.proofs.laws.known_stays_known.Goals as goal

pub returns : goal.returns
returns c = run-knows
