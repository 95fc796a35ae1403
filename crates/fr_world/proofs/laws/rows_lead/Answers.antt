use Rattle.fr_world.proofs.RowsLead.{rows-lead}
use Rattle.fr_world.proofs.laws.rows_lead.Goals as goal

pub returns : goal.returns
returns c = rows-lead
