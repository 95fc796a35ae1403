use Rattle.fr_base.proofs.ImportLaws.{bad_variant}
use Rattle.fr_base.proofs.laws.bad_variant_is_bad_name.Goals as goal

pub returns : goal.returns
returns c = bad_variant
