-- Cells of a page: when frames and placements are those of a page's rows, in whatever order.
use Rattle.std.specs.Prelude.{◌≡◌, Bool, false, List, flat_map, AllPairs, Option, Some, None, option_map}
use Rattle.std.specs.Ordering.{nat_cmp}
use Rattle.std.specs.Cmp.Lexicographic.{slice_cmp}
use Rattle.std.specs.List.{list_any}
use Rattle.std.specs.Map.{lookup}
use Rattle.std.specs.BTreeMap.{is_at}
use Rattle.fr_base.specs.Tables.{contains}
use Rattle.fr_base.specs.Book as book
use Rattle.fr_base.specs.declared.name.Name.{Name}
use Rattle.fr_base.specs.declared.placement.Placement.{Placement}
use Rattle.fr_world.specs.Occupancies.{is_pair}
use Rattle.fr_world.specs.Decisions.{filled_by}
use Rattle.fr_world.specs.Pages.{AreApart, FrameData, frame_of}

-- whether there is a frame with this placement
abbrev pub has_placement : Placement → Option book.Frame → Bool
has_placement q None = false
has_placement q (Some f) = contains f.placements q

-- whether the frame of this name has the placement
abbrev pub is_placed : List (Name × FrameData) → Name → Placement → Bool
is_placed frames f q = has_placement q (option_map frame_of (lookup (is_at (slice_cmp nat_cmp f)) frames))

-- The pairs are the frames' names with their placements, in whatever order.
abbrev pub ArePlaced : List (Name × Placement) → List (Name × FrameData) → Type 0
ArePlaced pairs frames = (f : Name) (q : Placement) → list_any (is_pair f q) pairs ≡ is_placed frames f q

-- the placements of frames, each with its frame's name, frame by frame
abbrev pub pairs_in : List (Name × FrameData) → List (Name × Placement)
pairs_in frames = flat_map (λ e. filled_by e.0 (frame_of e.1)) frames

-- No cell lies in two of the placements.
abbrev pub ShareNone : List (Name × Placement) → Type 0
ShareNone = AllPairs (λ x y. AreApart x.1 y.1)
