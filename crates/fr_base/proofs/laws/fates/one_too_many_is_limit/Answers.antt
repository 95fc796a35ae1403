use Rattle.fr_base.proofs.FateLaws.{late-limit}
use Rattle.fr_base.proofs.laws.fates.one_too_many_is_limit.Goals as goal

pub returns : goal.returns
returns c = late-limit
