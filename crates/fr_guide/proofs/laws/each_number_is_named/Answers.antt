use Rattle.fr_guide.proofs.RefusalNumberLaws.{numbers}
use Rattle.fr_guide.proofs.laws.each_number_is_named.Goals as goal

pub returns : goal.returns
returns c = numbers
