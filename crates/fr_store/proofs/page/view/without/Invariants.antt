use Rattle.std.proofs.Common.{◌≡◌, None, take, bytes_eq, if◌then◌else◌}
use Rattle.std.specs.List.{list_any}
use Rattle.fr_base.specs.declared.name.Name.{Name}
use Rattle.fr_world.specs.Amends.{frame_at}
use Rattle.fr_store.specs.Reading.{name_shown}
use Rattle.fr_store.proofs.page.view.without.Given as goal

abbrev pub invariant-loop-row : goal.invariant-loop-row
invariant-loop-row l =
    (n : Name) → frame_at n l.frames.entries ≡ (if list_any (λ r. bytes_eq (name_shown r) n) (take l.row-index l.rows) then None else frame_at n l.fn.frames.entries)
