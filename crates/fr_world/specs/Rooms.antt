-- Room: where a frame of a page may still be placed with a repetition, by the register's own words,
-- as if no other rows were there.
use Rattle.std.specs.Prelude.{ℕ, Bool, List, nat_le, is_none, Result, Ok}
use Rattle.fr_base.specs.Refusing.{◌>>=◌, ◌>>◌, ◌or◌, refuse◌when◌}
use Rattle.fr_base.specs.Tables.{get, len}
use Rattle.fr_base.specs.Cells.{cells_of}
use Rattle.fr_base.specs.Schedule.{first_taken}
use Rattle.fr_base.specs.Book.{schedule_of}
use Rattle.fr_base.specs.Step.{OwnRows}
use Rattle.fr_base.specs.Room.{is_vacant, own_room}
use Rattle.fr_base.specs.declared.name.Name.{Name}
use Rattle.fr_base.specs.declared.placement.Placement.{Placement}
use Rattle.fr_base.specs.declared.refusal.Refusal.{Refusal}
use Rattle.fr_base.specs.declared.refusal.Refusal.TheVariants.{Released, NoFrame, Limit}
use Rattle.fr_base.specs.declared.limits.TheConstants.{MAX_PLACEMENTS}
use Rattle.fr_world.specs.Pages.{PageData, own_rows_of}

-- whether the supplier's node may send in the placement's cells, as if no other rows were there
abbrev pub is_vacant_alone : OwnRows → Name → Placement → Bool
is_vacant_alone page node q = is_vacant page.grants (schedule_of page.frames) page.supplier node q

-- whether none of the placement's cells is filled, as if no other rows were there
abbrev pub is_free_alone : OwnRows → Placement → Bool
is_free_alone page q = is_none (first_taken (schedule_of page.frames) (cells_of q))

-- the node of the frame that is to be placed, or what refuses each placement of it
unfoldable pub open_node : PageData → Name → Result Name Refusal
open_node rows f = do
  refuse Released when rows.released
  frame ← get (own_rows_of rows).frames (rows.supplier, f) or NoFrame
  refuse Limit when nat_le MAX_PLACEMENTS (len frame.placements)
  Ok frame.node

-- where a frame of the page may be placed
unfoldable pub page_room : PageData → Name → ℕ → Result (List Placement) Refusal
page_room rows f repetition = do
  refuse Released when rows.released
  own_room rows.params (own_rows_of rows).grants (own_rows_of rows).frames rows.supplier f repetition
