use Rattle.fr_picture.proofs.ReleasedPlans.{plan-stays}
use Rattle.fr_picture.proofs.laws.released_plan_stays.Goals as goal

pub returns : goal.returns
returns c = plan-stays
