use Rattle.fr_base.proofs.LoadLaws.{load-adds}
use Rattle.fr_base.proofs.laws.load_adds_up.Goals as goal

pub returns : goal.returns
returns c = load-adds
