use Rattle.std.proofs.Common.{◌∙◌, sym, ap}
use Rattle.fr_base.specs.Keys.{placement_order}
use Rattle.fr_world.specs.PageEdits.{has_place, lent_frame}
use Rattle.fr_world.proofs.KeyLaws.{placement_cmp, placements_alike}
use Rattle.fr_world.proofs.MapLaws.{contains-set_of}
use Rattle.fr_world.proofs.decision.page_edits.has_place.Goals as goal

pub returns-in-Some : goal.returns-in-Some
returns-in-Some c =
    let q = c.args.placement.now in
    c.contains.ensures
    ∙ sym (contains-set_of placement_cmp placement_order (λ q. q) placements_alike c.in-Some.row.now.placements.keys q)
    ∙ sym (ap (λ o. has_place (lent_frame o) q) c.in-Some.is)
