use Rattle.fr_base.proofs.FateLaws.{refused-leave_nothing}
use Rattle.fr_base.proofs.laws.fates.refused_rows_leave_nothing.Goals as goal

pub returns : goal.returns
returns c = refused-leave_nothing
