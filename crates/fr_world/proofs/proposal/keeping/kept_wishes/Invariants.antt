use Rattle.std.proofs.Common.{◌≡◌, ◌++◌, [], drop}
use Rattle.fr_base.specs.KeptPlaces.{keep}
use Rattle.fr_base.specs.Turns.{places_given}
use Rattle.fr_world.specs.Pages.{own_rows_of}
use Rattle.fr_world.proofs.proposal.keeping.kept_wishes.Given as goal

-- what wishes so far keep, and what those that are left keep beside it
abbrev pub invariant-loop-asked : goal.invariant-loop-asked
invariant-loop-asked l = l.kept.items ++ keep l.page.supplier (own_rows_of l.page).frames (places_given l.kept.items) (drop l.asked-index l.wishes) ≡ keep l.page.supplier (own_rows_of l.page).frames [] l.wishes
