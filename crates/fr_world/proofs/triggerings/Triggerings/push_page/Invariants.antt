use Rattle.std.proofs.Common.{◌≡◌, ◌++◌}
use Rattle.fr_base.specs.Book.{placements_of}
use Rattle.fr_world.specs.Pages.{own_rows_of}
use Rattle.fr_world.specs.Sendings.{Extends}
use Rattle.fr_world.proofs.TriggeringLaws.{fillings}
use Rattle.fr_world.proofs.triggerings.Triggerings.push_page.Given as goal

-- the placements so far, and those of the frames that are left; and the first are what was there, and more
abbrev pub invariant-loop-name : goal.invariant-loop-name
invariant-loop-name l =
    (l.self ++ fillings l.supplier l.name-iterator ≡ l.fn.self ++ placements_of (own_rows_of l.page).frames)
    × Extends l.fn.self l.self
