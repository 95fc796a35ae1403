use Rattle.std.proofs.Common.{refl}
use Rattle.fr_base.proofs.DifferenceLaws.{differences-none}
use Rattle.fr_base.proofs.laws.nothing_differs_from_itself.Goals as goal

pub returns : goal.returns
returns c p actor x = differences-none p actor x x refl refl
