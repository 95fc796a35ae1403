use Rattle.fr_office.proofs.CrashedLaws.{keeps_answered}
use Rattle.fr_office.proofs.laws.answers_are_kept.Goals as goal

pub returns : goal.returns
returns g c = keeps_answered g.R.Records.stands g.R.Records.leaves
