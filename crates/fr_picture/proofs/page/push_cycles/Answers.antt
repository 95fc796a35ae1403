use Rattle.fr_picture.specs.Pages.{cycle_text}
use Rattle.fr_picture.proofs.PageLemmas.{number_more}
use Rattle.fr_picture.proofs.page.push_cycles.Goals as goal

pub loop-cycle-preserved : goal.loop-cycle-preserved
loop-cycle-preserved c = number_more cycle_text c.loop-cycle.cycle _ _ _ c.loop-cycle.invariant c.in_ok-push_cycle.ensures
