use Rattle.std.proofs.Common.{◌≡◌, false, ap, ◌∙◌, rules, tests}
use Rattle.fr_world.specs.Occupancies.{without}
use Rattle.fr_world.proofs.KeyLaws.{placement_cmp, placements_alike}
use Rattle.std.specs.BTreeMap.{is_at}
use Rattle.std.specs.List.{list_any}
use Rattle.fr_base.specs.Keys.{placement_order}
use Rattle.fr_world.proofs.MapLaws.{contains-set_of}
use Rattle.fr_world.proofs.PlacedLaws.{any, any-undone}
use Rattle.fr_world.proofs.amend.put_placement.Goals as goal

pub returns-in-Err-clause-kept : goal.returns-in-Err-clause-kept
returns-in-Err-clause-kept c f q =
    let absent : list_any (is_at (placement_cmp c.args.placement)) c.args.placements.now.keys ≡ false = search (rules, tests) in
    let none : any c.args.name c.args.placement c.args.cells.now ≡ false = c.requires ∙ contains-set_of placement_cmp placement_order (λ x. x) placements_alike c.args.placements.now.keys c.args.placement ∙ absent in
    ap (any f q) (c.clear.ensures ∙ ap (λ ps. without ps c.args.name c.args.placement) c.in_ok-add.ensures.ok)
    ∙ any-undone c.args.cells.now c.args.name c.args.placement none f q
