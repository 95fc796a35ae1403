use Rattle.fr_cli.proofs.EachFault.{faults, links}
use Rattle.fr_cli.proofs.laws.each_fault_is_explained.Goals as goal

pub returns : goal.returns
returns c = (faults, links)
