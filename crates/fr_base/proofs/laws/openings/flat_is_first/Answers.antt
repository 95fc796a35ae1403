use Rattle.fr_base.proofs.OpenedLaws.{flat-first}
use Rattle.fr_base.proofs.laws.openings.flat_is_first.Goals as goal

pub returns : goal.returns
returns c = flat-first
