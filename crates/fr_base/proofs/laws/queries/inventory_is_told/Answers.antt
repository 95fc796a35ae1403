use Rattle.fr_base.proofs.QueryLaws.{inventory-told}
use Rattle.fr_base.proofs.laws.queries.inventory_is_told.Goals as goal

pub returns : goal.returns
returns c = inventory-told
