use Rattle.fr_world.proofs.LoadLaws.{marked-ones}
use Rattle.fr_world.proofs.mask_occupancy.marked_cycles.Goals as goal

pub returns : goal.returns
returns c = marked-ones c.args.word c.args.cycles c.requires.0 c.requires.1
