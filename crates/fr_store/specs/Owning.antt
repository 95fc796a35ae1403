-- Own frames: how a variant is stored, laid over its parent or not. Which frames are its own, and
-- which variant has each frame that it shows as its own. A frame that is only a parent's becomes
-- its own, with copies of all its rows, and what each variant shows stays.
use Rattle.std.specs.Prelude.{◌≡◌, ◌++◌, ◌&&◌, ℕ, Bool, List, Some, Result, MatchResult, OnOk, IfOk, IsTrue, IsPermutation}
use Rattle.std.specs.List.{list_any}
use Rattle.std.specs.Ordering.{int_eq}
use Rattle.sqlite.specs.State.{State, HasCleanDisk, KeepsCommit}
use Rattle.fr_base.specs.Tables.{get}
use Rattle.fr_base.specs.Cluster.{Cluster}
use Rattle.fr_base.specs.Book.{Frame, Variant, Book}
use Rattle.fr_base.specs.declared.name.Name.{Name}
use Rattle.fr_world.specs.Fits.{IsOpen}
use Rattle.fr_tables.specs.Changes.{Changes, tables_of}
use Rattle.fr_store.specs.Reading.{Stands}
use Rattle.fr_tables.specs.declared.frame_key.FrameKey.{FrameKey}
use Rattle.fr_tables.specs.Rows.{VariantRow, FrameRow, PlacementRow, SignalRow, flag}
use Rattle.fr_store.specs.StandsFor.{HoldsRows}
use Rattle.fr_tables.specs.Statements.{is_variant, is_frame, frame_copies, placement_copies, signal_copies}
use Rattle.fr_tables.specs.Tables.{Tables, HasTables}
use Rattle.fr_store.specs.declared.applying.origin.Origin.{Origin}

-- ---- how a variant is stored

-- the row is the variant's, and says whether it is laid over its parent
abbrev pub says_over : Name → Bool → VariantRow → Bool
says_over v over r = is_variant v r && int_eq r.overlay (flag over)

-- the variant is there, and whether it is laid over its parent
abbrev pub IsStoredSo : Name → Bool → Tables → Type 0
IsStoredSo v over t = IsTrue (list_any (says_over v over) t.variants)

-- this is the variant's parent, and whether the variant is laid over it
pub record TellsOrigin (v : Name) (t : Tables) (origin : Origin) : Type 0 where
  pub overlay : IsStoredSo v origin.overlay t
  pub parent : (count : ℕ) (b : Book) → HoldsRows t count b → (x : Variant) → get b.variants v ≡ Some x → x.parent ≡ origin.parent

-- ---- a variant's own frames

-- whether the frame has a row of its own in the variant, and is not only shown from its parent
abbrev pub is_own : FrameKey → Tables → Bool
is_own key t = list_any (is_frame key) t.frames

-- the frame that a variant shows is the owner's own; where it is the variant's own, the variant is
-- its owner
pub record IsOfOwner (b : Book) (t : Tables) (key : FrameKey) (frame : Frame) (owner : Name) : Type 0 where
  pub variant : Variant
  pub there : get b.variants owner ≡ Some variant
  pub shown : get variant.frames (key.supplier, key.frame) ≡ Some frame
  pub own : IsTrue (is_own (record key { variant = owner }) t)
  pub nearest : IsTrue (is_own key t) → owner ≡ key.variant

-- the tables are as they were, and this is the owner of the frame that the variant shows, if it shows one
pub record IsOwner (key : FrameKey) (owner : Name) (old new : State) : Type 0 where
  pub now : new.now ≡ old.now
  pub inside : IsTrue new.in_transaction
  pub of : (c : Cluster) (b : Book) → Stands old c b → (x : Variant) (frame : Frame) → get b.variants key.variant ≡ Some x → get x.frames (key.supplier, key.frame) ≡ Some frame
      → IsOfOwner b (tables_of old) key frame owner

-- Queries inside a transaction find the owner of the frame that the variant shows, or one of them
-- fails.
abbrev pub FindsOwner : {E : Type 0} → FrameKey → State → State → Result Name E → Type 0
FindsOwner key old new r = HasCleanDisk new → IsTrue old.in_transaction → HasTables old.now → KeepsCommit old new × IfOk r (λ owner. IsOwner key owner old new)

-- ---- a frame's rows, copied for another variant

abbrev pub with_frame_rows : List FrameRow → List PlacementRow → List SignalRow → Tables → Tables
with_frame_rows frames placements signals t =
    record t { frames = t.frames ++ frames; placements = t.placements ++ placements; signals = t.signals ++ signals }

-- copies of all rows of the same frame in another variant are put in for this one, in some order
pub record CopiesFrame (from : Name) (to : FrameKey) (old new : State) : Type 0 where
  pub frames : List FrameRow
  pub placements : List PlacementRow
  pub signals : List SignalRow
  pub same_frames : IsPermutation (frame_copies from to (tables_of old)) frames
  pub same_placements : IsPermutation (placement_copies from to (tables_of old)) placements
  pub same_signals : IsPermutation (signal_copies from to (tables_of old)) signals
  pub added : Changes (with_frame_rows frames placements signals) old new

-- Statements inside a transaction make such copies, or fail and commit nothing.
abbrev pub MakesFrameCopies : {X E : Type 0} → Name → FrameKey → State → State → Result X E → Type 0
MakesFrameCopies from to old new r =
    HasCleanDisk new → IsTrue old.in_transaction → HasTables old.now → MatchResult r (λ _. CopiesFrame from to old new) (λ _. KeepsCommit old new)

-- Statements inside a transaction make the frame that an open variant shows its own, and what each
-- variant shows stays; or one of them fails.
abbrev pub MakesOwn : {X E : Type 0} → FrameKey → State → State → Result X E → Type 0
MakesOwn key old new r =
    HasCleanDisk new → IsTrue old.in_transaction → (c : Cluster) (b : Book) → Stands old c b → (x : Variant) (frame : Frame) → IsOpen b key.variant x
    → get x.frames (key.supplier, key.frame) ≡ Some frame → OnOk r (Stands new c b × IsTrue (is_own key (tables_of new)))
