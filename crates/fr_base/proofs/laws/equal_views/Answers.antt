use Rattle.fr_base.proofs.AloneRuns.{runs-alike}
use Rattle.fr_base.proofs.laws.equal_views.Goals as goal

pub returns : goal.returns
returns c = λ cluster b d last end asks others answers replies s sound_b sound_d run_b run_d rows same. runs-alike cluster s b d last end asks others answers replies sound_b sound_d run_b run_d rows same
