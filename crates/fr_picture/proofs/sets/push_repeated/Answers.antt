use Rattle.std.proofs.Common.{◌*◌}
use Rattle.fr_picture.specs.Kinds.{box_text}
use Rattle.fr_picture.proofs.PageLemmas.{number_more}
use Rattle.fr_picture.proofs.sets.push_repeated.Goals as goal

pub loop-row-preserved : goal.loop-row-preserved
loop-row-preserved c = number_more (λ k. box_text (k * c.args.repetition) c.args.width 1) c.loop-row.row _ _ _ c.loop-row.invariant c.in_ok-push_box.ensures
