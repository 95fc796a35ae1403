-- Decision: what refuses a change of a page's rows, by the step's own words, as if no other rows
-- were there; and the edit that an accepted change is.
use Rattle.std.specs.Prelude.{not, List, [], ◌∷◌, map, nat_le, Result, Ok, IsTrue, ⊤}
use Rattle.fr_base.specs.Refusing.{◌>>=◌, ◌>>◌, ◌or◌, refuse◌when◌}
use Rattle.fr_base.specs.Tables.{get, len}
use Rattle.fr_base.specs.Book.{Frame, Sender, granted}
use Rattle.fr_base.specs.Cells.{Cell}
use Rattle.fr_base.specs.Queries.{placements_in}
use Rattle.fr_base.specs.Step.{OwnRows, shared_by, admits}
use Rattle.fr_base.specs.Signals.{is_signal_length}
use Rattle.fr_base.specs.Sound.{FitsCluster}
use Rattle.fr_base.specs.Changes.{in_rows}
use Rattle.fr_base.specs.declared.limits.TheConstants.{MAX_PLACEMENTS}
use Rattle.fr_base.specs.declared.name.Name.{Name}
use Rattle.fr_base.specs.declared.params.Params.{Params}
use Rattle.fr_base.specs.declared.placement.Placement.{Placement}
use Rattle.fr_base.specs.declared.refusal.Refusal.{Refusal}
use Rattle.fr_base.specs.declared.refusal.Refusal.TheVariants.{NoFrame, NotGranted, Limit, Released}
use Rattle.fr_base.specs.declared.request.Change.{Change}
use Rattle.fr_base.specs.declared.request.Change.TheVariants as change
use Rattle.fr_base.specs.declared.request.FrameChange.TheVariants.{Place, AddSignal}
use Rattle.fr_world.specs.Pages.{PageData, own_rows_of}
use Rattle.fr_world.specs.declared.edit.Edit.{Edit}
use Rattle.fr_world.specs.declared.edit.Edit.TheVariants.{Rows}
use Rattle.fr_world.specs.declared.occupancy.TakenCell.{TakenCell}

-- a frame's placements, each with the frame's name
abbrev pub filled_by : Name → Frame → List (Name × Placement)
filled_by f frame = map (λ q. (f, q)) (placements_in frame)

-- a filled cell, with its sender's frame
abbrev pub taken_by : Cell × Sender → TakenCell
taken_by e = record { cycle = e.0.cycle; channel = e.0.channel; frame = e.1.frame }

-- what refuses a change of a supplier's rows, as if no other rows were there
abbrev pub admits_alone : OwnRows → Change → Result ⊤ Refusal
admits_alone page what = admits page (shared_by page.grants page.frames) what

-- the edits that a change of the page's rows is decided to, or its first refusal
unfoldable pub decision : PageData → Change → Result (List Edit) Refusal
decision rows what = do
  refuse Released when rows.released
  admits_alone (own_rows_of rows) what
  Ok (Rows (in_rows rows.supplier rows.variant what) ∷ [])

-- A placement in the change fits the cluster, and a signal in it has a length.
abbrev pub IsChecked : Params → Change → Type 0
IsChecked p (change.Frame f (Place q)) = FitsCluster p q
IsChecked p (change.Frame f (AddSignal signal)) = IsTrue (is_signal_length signal.length)
IsChecked p _ = ⊤

-- what refuses a placement of the frame, whatever cells are filled
unfoldable pub has_room : OwnRows → Name → Placement → Result ⊤ Refusal
has_room page f q = do
  frame ← get page.frames (page.supplier, f) or NoFrame
  refuse NotGranted when not (granted page.grants page.supplier frame.node q)
  refuse Limit when nat_le MAX_PLACEMENTS (len frame.placements)
