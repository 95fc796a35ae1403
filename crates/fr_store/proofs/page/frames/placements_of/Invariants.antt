use Rattle.std.proofs.Common.{◌≡◌, map, reverse, take}
use Rattle.fr_base.specs.Keys.{placement_order}
use Rattle.fr_world.specs.Maps.{set_of}
use Rattle.fr_store.specs.Paging.{placement_shown}
use Rattle.fr_store.proofs.page.frames.placements_of.Given as goal

abbrev pub invariant-loop-row : goal.invariant-loop-row
invariant-loop-row l = set_of placement_order (λ q. q) l.placements.keys ≡ set_of placement_order (λ q. q) (map (placement_shown l.count) (reverse (take l.row-index l.rows)))
