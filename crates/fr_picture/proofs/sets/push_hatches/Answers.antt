use Rattle.fr_picture.specs.Sets.{hatch_text}
use Rattle.fr_picture.proofs.PageLemmas.{number_more}
use Rattle.fr_picture.proofs.sets.push_hatches.Goals as goal

pub loop-cycle-preserved : goal.loop-cycle-preserved
loop-cycle-preserved c = number_more (hatch_text c.args.width) c.loop-cycle.cycle _ _ _ c.loop-cycle.invariant c.in_ok-push_hatch.ensures
