-- Difference of two pages: the edits that lead from the one to the other. What is gone goes first,
-- and then what is new comes. No edit names a row that both have.
use Rattle.std.specs.Prelude.{not, ◌++◌, Bool, false, if◌then◌else◌, List, [], ◌∷◌, map, filter, reverse, Option, Some, None, option_map}
use Rattle.std.specs.Borrow.{Bor}
use Rattle.std.specs.List.{list_any}
use Rattle.fr_base.specs.Tables.{Table, get, contains}
use Rattle.fr_base.specs.Keys.{owned}
use Rattle.fr_base.specs.Names.{same_text}
use Rattle.fr_base.specs.Book.{Frame}
use Rattle.fr_base.specs.Differences.{same_signal}
use Rattle.fr_base.specs.Queries.{placements_in}
use Rattle.fr_base.specs.Signals.{SignalData}
use Rattle.fr_base.specs.Step.{OwnRows}
use Rattle.fr_base.specs.Changes.{in_rows}
use Rattle.fr_base.specs.declared.name.Name.{Name}
use Rattle.fr_base.specs.declared.placement.Placement.{Placement}
use Rattle.fr_base.specs.declared.request.Change.TheVariants as change
use Rattle.fr_base.specs.declared.request.FrameChange.{FrameChange}
use Rattle.fr_base.specs.declared.request.FrameChange.TheVariants.{Add, Drop, Place, Unplace, AddSignal, DropSignal}
use Rattle.fr_world.specs.Pages.{frame_data, frame_of}
use Rattle.fr_world.specs.declared.edit.Edit.{Edit}
use Rattle.fr_world.specs.declared.edit.Edit.TheVariants.{Rows}
use Rattle.fr_world.specs.declared.page.PageFrame.{PageFrame}

-- what a reference to a frame points to, if there is one
abbrev pub lent_frame : Option (Bor PageFrame) → Option Frame
lent_frame frame = option_map (λ f. frame_of (frame_data f.now)) frame

-- what stands at a frame's name in the other page, if the same node sends it
abbrev pub of_node : Name → Option Frame → Option Frame
of_node n None = None
of_node n (Some frame) = if same_text frame.node n then Some frame else None

-- whether what stands there has the placement
abbrev pub has_place : Option Frame → Placement → Bool
has_place None q = false
has_place (Some frame) q = contains frame.placements q

-- whether it has the very signal
abbrev pub carries : Option Frame → SignalData → Bool
carries None s = false
carries (Some frame) s = list_any (same_signal s) frame.signals

-- the changes that add the placements and the signals that the frame has beside those of the other
abbrev pub rows_beside : Frame → Option Frame → List FrameChange
rows_beside frame other =
    map Place (filter (λ q. not (has_place other q)) (placements_in frame)) ++ map AddSignal (filter (λ s. not (carries other s)) frame.signals)

-- the change that ends what a change added
abbrev pub ending : FrameChange → FrameChange
ending (Add node) = Drop
ending (Place q) = Unplace q
ending (AddSignal signal) = DropSignal signal.name
ending what = what

-- the changes that add what the frame has and the other has not; all of it, where there is no other
abbrev pub gains : Frame → Option Frame → List FrameChange
gains frame None = Add frame.node ∷ rows_beside frame None
gains frame (Some other) = rows_beside frame (Some other)

-- the changes that end what the frame has and the other has not; the frame is dropped where there is no other
abbrev pub losses : Frame → Option Frame → List FrameChange
losses frame None = Drop ∷ []
losses frame (Some other) = map ending (rows_beside frame (Some other))

-- the changes of a supplier's frame in the variant, as edits
abbrev pub frame_edits : Name → Name → Name → List FrameChange → List Edit
frame_edits s v f whats = map (λ what. Rows (in_rows s v (change.Frame f what))) whats

-- the edits that add what the frames have and the others have not
abbrev pub coming : Name → Name → Table owned Frame → List ((Name × Name) × Frame) → List Edit
coming s v others [] = []
coming s v others (row ∷ rows) = frame_edits s v row.0.1 (gains row.1 (of_node row.1.node (get others row.0))) ++ coming s v others rows

-- the edits that end what the frames have and the others have not
abbrev pub going : Name → Name → Table owned Frame → List ((Name × Name) × Frame) → List Edit
going s v others [] = []
going s v others (row ∷ rows) = frame_edits s v row.0.1 (losses row.1 (of_node row.1.node (get others row.0))) ++ going s v others rows

-- the edits that lead from a supplier's rows of the variant to others, whose nodes and grants are the same
unfoldable pub edits_between : Name → OwnRows → OwnRows → List Edit
edits_between v before after =
    reverse (going before.supplier v after.frames before.frames.rows) ++ coming before.supplier v before.frames after.frames.rows
