use Rattle.fr_base.proofs.AloneDependence.{step-beside}
use Rattle.fr_base.proofs.laws.one_dependence.Goals as goal

pub returns : goal.returns
returns c = step-beside
