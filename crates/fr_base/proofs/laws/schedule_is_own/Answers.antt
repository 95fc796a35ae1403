use Rattle.fr_base.proofs.AloneSchedule.{schedule-alone}
use Rattle.fr_base.proofs.laws.schedule_is_own.Goals as goal

pub returns : goal.returns
returns c = schedule-alone
