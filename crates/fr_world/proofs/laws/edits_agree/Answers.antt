use Rattle.fr_world.proofs.AgreeLaws.{edits-agree}
use Rattle.fr_world.proofs.laws.edits_agree.Goals as goal

pub returns : goal.returns
returns c = edits-agree
