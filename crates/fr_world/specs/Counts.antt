-- Counts: which frames wishes free, and how many placements of each frame count, as the code keeps them: what wishes add stands beside the page's frames.
use Rattle.std.specs.Prelude.{◌≡◌, ℕ, nat_le, Bool, true, false, ◌&&◌, List, Option, Some, None, option_map, Result, Ok, Err, if◌then◌else◌}
use Rattle.std.specs.List.{list_any}
use Rattle.std.specs.Map.{lookup}
use Rattle.std.specs.Ordering.{nat_cmp}
use Rattle.std.specs.Cmp.Lexicographic.{slice_cmp}
use Rattle.std.specs.BTreeMap.{is_at}
use Rattle.std.specs.Option.{option_or}
use Rattle.fr_base.specs.Book.{Frame}
use Rattle.fr_base.specs.Keys.{owned}
use Rattle.fr_base.specs.Names.{same_text}
use Rattle.fr_base.specs.RefusedWishes as wishes
use Rattle.fr_base.specs.Tables.{Table, empty, get, len}
use Rattle.fr_base.specs.declared.limits.TheConstants.{MAX_FRAMES, MAX_PLACEMENTS}
use Rattle.fr_base.specs.declared.name.Name.{Name}
use Rattle.fr_base.specs.declared.refusal.Refusal.{Refusal}
use Rattle.fr_base.specs.declared.wish.Wish.{Wish}
use Rattle.fr_base.specs.declared.wish.WishRead.{WishRead}
use Rattle.fr_world.specs.Pages.{PageData, own_rows_of}
use Rattle.fr_world.specs.declared.proposal.refused.Counted.{Counted}
use Rattle.fr_world.specs.declared.proposal.refused.Counts.{Counts}

-- whether a wish names the frame; one that its text refuses names none
abbrev pub names_frame : Name → Result Wish Refusal → Bool
names_frame f (Ok wish) = same_text wish.frame f
names_frame f (Err refusal) = false

-- whether the frame is freed: wishes that are to replace name it
abbrev pub is_freed : Bool → List WishRead → Name → Bool
is_freed replace reads f = replace && list_any (λ read. names_frame f read.wish) reads

-- a frame that is left without placements, if it is freed
abbrev pub freed_if : Bool → Frame → Frame
freed_if freed frame = record frame { placements = if freed then empty else frame.placements }

abbrev pub counted_of : Counted → wishes.Counted
counted_of one = record { node = one.node; placements = one.placements }

-- how many placements of a frame count before any wish
abbrev pub count_of : Bool → Frame → wishes.Counted
count_of freed frame = record { node = frame.node; placements = if freed then 0 else len frame.placements }

-- The counts are these: those of frames that wishes added to stand in the map, the others on the page.
pub record ShowCounts (page : PageData) (freed : Name → Bool) (counts : Counts) (counted : Table owned wishes.Counted) : Type 0 where
  pub frames : len counted ≡ counts.frames
  pub each : (f : Name) → get counted (page.supplier, f)
      ≡ option_or (option_map counted_of (lookup (is_at (slice_cmp nat_cmp f)) counts.wished.entries)) (option_map (count_of (freed f)) (get (own_rows_of page).frames (page.supplier, f)))

-- whether there may be no more, where so many frames count and this of a wish's own
abbrev pub is_full_at : ℕ → Option wishes.Counted → Bool
is_full_at frames None = nat_le MAX_FRAMES frames
is_full_at frames (Some one) = nat_le MAX_PLACEMENTS one.placements
