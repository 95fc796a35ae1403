-- Kept places: under a replacement a wish keeps a placement that its frame has with its channels and repetition, if one is left, in the order of
-- lines and of the reports.
use Rattle.std.specs.Prelude.{◌==◌, Bool, not, ◌&&◌, List, [], ◌∷◌, map, find, Option, Some, None}
use Rattle.std.specs.Ordering.{is_eq}
use Rattle.std.specs.List.{list_any}
use Rattle.fr_base.specs.Tables.{Table, get}
use Rattle.fr_base.specs.Keys.{owned, placement_order}
use Rattle.fr_base.specs.Names.{same_text}
use Rattle.fr_base.specs.Book.{Frame}
use Rattle.fr_base.specs.Turns.{same_kind, with_place}
use Rattle.fr_base.specs.declared.name.Name.{Name}
use Rattle.fr_base.specs.declared.placement.Placement.{Placement}
use Rattle.fr_base.specs.declared.proposal.Given.{Given}
use Rattle.fr_base.specs.declared.wish.Asked.{Asked}
use Rattle.fr_base.specs.declared.wish.Wish.{Wish}

-- whether the placement has the wish's channels and repetition
abbrev pub is_as_wished : Wish → Placement → Bool
is_as_wished wish q = same_kind q.channels wish.channels && (q.cycles.repetition == wish.repetition)

-- whether a wish before keeps this placement of the frame
abbrev pub is_kept : List (Name × Placement) → Name → Placement → Bool
is_kept kept f q = list_any (λ k. same_text k.0 f && is_eq (placement_order.compare k.1 q)) kept

-- the frame's placements, in order
abbrev pub placements_in : Option Frame → List Placement
placements_in None = []
placements_in (Some frame) = map (λ row. row.0) frame.placements.rows

-- the first of the frame's placements that the wish may keep
abbrev pub kept_for : List (Name × Placement) → Wish → Option Frame → Option Placement
kept_for kept wish there = find (λ q. is_as_wished wish q && not (is_kept kept wish.frame q)) (placements_in there)

-- what the supplier's wishes keep, in the order of lines, where those before them kept these
unfoldable pub keep : Name → Table owned Frame → List (Name × Placement) → List Asked → List Given
keep s frames kept [] = []
keep s frames kept (asked ∷ rest) =
    let place = kept_for kept asked.wish (get frames (s, asked.wish.frame)) in
    record { asked = asked; place = place } ∷ keep s frames (with_place kept asked.wish.frame place) rest
