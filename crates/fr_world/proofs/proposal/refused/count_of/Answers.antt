use Rattle.std.proofs.Common.{◌∙◌, sym}
use Rattle.fr_base.specs.Keys.{placement_order}
use Rattle.fr_world.specs.Pages.{frame_data}
use Rattle.fr_world.proofs.KeyLaws.{placement_cmp, placements_alike}
use Rattle.fr_world.proofs.MapLaws.{len-set_of}
use Rattle.fr_world.proofs.RefusedLaws.{count-left}
use Rattle.fr_world.proofs.proposal.refused.count_of.Goals as goal

pub returns : goal.returns
returns c =
    count-left c.args.freed (frame_data c.args.row.now) c.len.result c.if-freed.false
    (c.len.ensures.len ∙ sym (len-set_of placement_cmp placement_order (λ q. q) placements_alike c.args.row.now.placements.keys c.len.ensures.ordered))
