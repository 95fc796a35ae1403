use Rattle.fr_base.proofs.FateLaws.{each-fate}
use Rattle.fr_base.proofs.laws.fates.each_fate_is_its_rows.Goals as goal

pub returns : goal.returns
returns c = each-fate
