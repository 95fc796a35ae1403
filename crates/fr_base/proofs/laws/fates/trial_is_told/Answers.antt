use Rattle.fr_base.proofs.FateLaws.{trial-told}
use Rattle.fr_base.proofs.laws.fates.trial_is_told.Goals as goal

pub returns : goal.returns
returns c = trial-told
