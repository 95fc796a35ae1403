use Rattle.fr_base.proofs.LaneLaws.{schedule-counted}
use Rattle.fr_base.proofs.laws.loads.load_counts_the_schedule.Goals as goal

pub returns : goal.returns
returns c = schedule-counted
