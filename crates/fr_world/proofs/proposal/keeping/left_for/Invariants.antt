use Rattle.std.proofs.Common.{◌≡◌, ◌&&◌, not}
use Rattle.std.specs.List.{find}
use Rattle.fr_base.specs.KeptPlaces.{is_as_wished, is_kept}
use Rattle.fr_base.specs.Turns.{places_given}
use Rattle.fr_world.proofs.proposal.keeping.left_for.Given as goal

-- none of the placements before
abbrev pub invariant-loop-place : goal.invariant-loop-place
invariant-loop-place l =
    find (λ q. is_as_wished l.wish q && not (is_kept (places_given l.kept) l.wish.frame q)) l.place-iterator
    ≡ find (λ q. is_as_wished l.wish q && not (is_kept (places_given l.kept) l.wish.frame q)) l.frame.placements.keys
