use Rattle.fr_base.proofs.ReplacingLaws.{leaves_the_rest}
use Rattle.fr_base.proofs.laws.replaced_leaves_the_rest.Goals as goal

pub returns : goal.returns
returns c = leaves_the_rest
