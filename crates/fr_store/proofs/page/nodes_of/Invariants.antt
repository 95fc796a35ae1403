use Rattle.std.proofs.Common.{◌≡◌, map, reverse, take}
use Rattle.fr_base.specs.Keys.{owned}
use Rattle.fr_base.specs.declared.name.Name.{Name}
use Rattle.fr_world.specs.Maps.{set_of}
use Rattle.fr_store.specs.Reading.{name_shown}
use Rattle.fr_store.proofs.page.nodes_of.Given as goal

abbrev pub invariant-loop-row : goal.invariant-loop-row
invariant-loop-row l = (s : Name) → set_of owned (λ n. (s, n)) l.nodes.keys ≡ set_of owned (λ n. (s, n)) (map name_shown (reverse (take l.row-index l.rows)))
