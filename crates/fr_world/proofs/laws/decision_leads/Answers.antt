use Rattle.fr_world.proofs.LeadsLaws.{decision-leads}
use Rattle.fr_world.proofs.laws.decision_leads.Goals as goal

pub returns : goal.returns
returns c = decision-leads
