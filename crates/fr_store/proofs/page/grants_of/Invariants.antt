use Rattle.std.proofs.Common.{◌≡◌, map, reverse, take}
use Rattle.fr_base.specs.Keys.{channel_slots}
use Rattle.fr_base.specs.declared.name.Name.{Name}
use Rattle.fr_world.specs.Maps.{table_of}
use Rattle.fr_world.specs.Pages.{holder_of}
use Rattle.fr_store.specs.Paging.{grant_shown}
use Rattle.fr_store.proofs.page.grants_of.Given as goal

abbrev pub invariant-loop-row : goal.invariant-loop-row
invariant-loop-row l =
    (s : Name) → table_of channel_slots (λ k. (k.slot, k.channel)) (holder_of s) l.grants.entries ≡ table_of channel_slots (λ k. (k.slot, k.channel)) (holder_of s) (map grant_shown (reverse (take l.row-index l.rows)))
