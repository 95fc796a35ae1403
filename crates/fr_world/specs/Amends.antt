-- What a change makes of the sets and maps in which a page keeps its rows.
use Rattle.std.specs.Prelude.{◌≡◌, ℕ, List, Option, All, ⊤}
use Rattle.std.specs.Ordering.{nat_cmp}
use Rattle.std.specs.Cmp.Lexicographic.{slice_cmp}
use Rattle.std.specs.Map.{lookup}
use Rattle.std.specs.BTreeMap.{is_at}
use Rattle.fr_base.specs.Tables.{Table, get, settle}
use Rattle.fr_base.specs.Keys.{owned, channel_slots}
use Rattle.fr_base.specs.Book.{Frame, Holder}
use Rattle.fr_base.specs.Layouts.{IsLayout, with_signal}
use Rattle.fr_base.specs.Step.{frame_after}
use Rattle.fr_base.specs.declared.name.Name.{Name}
use Rattle.fr_base.specs.declared.request.FrameChange.{FrameChange}
use Rattle.fr_base.specs.declared.request.FrameChange.TheVariants.{AddSignal}
use Rattle.fr_world.specs.Maps.{table_of, set_of}
use Rattle.fr_world.specs.Pages.{AreInOrder, frame_data, frame_of, frames_data, holder_of}
use Rattle.fr_world.specs.declared.page.ChannelSlot.{ChannelSlot}
use Rattle.fr_world.specs.declared.page.PageFrame.{PageFrame}

-- a supplier's nodes, grants and frames as tables
abbrev pub nodes_of : Name → List Name → Table owned ⊤
nodes_of s nodes = set_of owned (λ n. (s, n)) nodes

abbrev pub grants_of : Name → List (ChannelSlot × Name) → Table channel_slots Holder
grants_of s grants = table_of channel_slots (λ k. (k.slot, k.channel)) (holder_of s) grants

abbrev pub frames_of : Name → List (Name × PageFrame) → Table owned Frame
frames_of s frames = table_of owned (λ f. (s, f)) frame_of (frames_data frames)

-- the frame of the book that a page's frame stands for
abbrev pub as_frame : PageFrame → Frame
as_frame f = frame_of (frame_data f)

-- each layout is that of a payload of so many words
abbrev pub HaveWords : ℕ → List (Name × PageFrame) → Type 0
HaveWords words frames = All (λ e. e.1.layout.words ≡ words) (frames_data frames)

-- The frames after a change of the one of this name. As tables they change alike, whoever's they
-- are. A page may have the frames after it if it had those before it.
pub record AreChanged (payload : ℕ) (f : Name) (what : FrameChange) (old new : List (Name × PageFrame)) : Type 0 where
  pub table : (s : Name) → frames_of s new ≡ settle (frames_of s old) (s, f) (frame_after what (get (frames_of s old) (s, f)))
  pub words : HaveWords payload old → HaveWords payload new
  pub order : AreInOrder (frames_data old) → AreInOrder (frames_data new)

-- the frame of this name
abbrev pub frame_at : Name → List (Name × PageFrame) → Option PageFrame
frame_at f frames = lookup (is_at (slice_cmp nat_cmp f)) frames

-- a signal that is added to the frame leaves a layout
abbrev pub LeavesLayout : FrameChange → PageFrame → Type 0
LeavesLayout (AddSignal signal) f = IsLayout (record { words = f.layout.words; signals = with_signal signal f.layout.signals })
LeavesLayout _ f = ⊤
