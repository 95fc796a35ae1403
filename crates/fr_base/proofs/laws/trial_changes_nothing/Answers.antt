use Rattle.fr_base.proofs.TrialLaws.{trial-stays}
use Rattle.fr_base.proofs.laws.trial_changes_nothing.Goals as goal

pub returns : goal.returns
returns c = trial-stays
