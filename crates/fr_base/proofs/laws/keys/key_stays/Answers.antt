use Rattle.fr_base.proofs.KeyRuns.{run-key}
use Rattle.fr_base.proofs.laws.keys.key_stays.Goals as goal

pub returns : goal.returns
returns c = run-key
