use Rattle.fr_base.proofs.MaskLemmas.{ones_are}
use Rattle.fr_base.proofs.cycles.ones.Goals as goal

pub returns : goal.returns
returns c = rw (c.from.ensures) (ones_are c.args.count c.requires.0 c.requires.1)
