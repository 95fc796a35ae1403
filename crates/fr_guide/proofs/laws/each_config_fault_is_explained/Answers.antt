use Rattle.fr_guide.proofs.EachWord.{faults}
use Rattle.fr_guide.proofs.laws.each_config_fault_is_explained.Goals as goal

pub returns : goal.returns
returns c = faults
