use Rattle.std.proofs.Common.{◌+◌}
use Rattle.fr_picture.specs.Sets.{set_path}
use Rattle.fr_picture.proofs.PageLemmas.{number_more}
use Rattle.fr_picture.proofs.sets.push_sets.Goals as goal

pub loop-index-preserved : goal.loop-index-preserved
loop-index-preserved c = number_more (λ index. set_path c.args.scale (index + 1)) c.loop-index.index _ _ _ c.loop-index.invariant c.in_ok-push_set.ensures
