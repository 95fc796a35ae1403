-- Sparing: an edit that changes no frame leaves all rows of frames. So a variant that is opened
-- from another gets no rows of frames.
use Rattle.std.specs.Prelude.{◌≡◌, Bool, true, false, List, Result, OnOk, IsTrue, All}
use Rattle.sqlite.specs.State.{State, HasCleanDisk}
use Rattle.fr_base.specs.declared.request.Change.{Change}
use Rattle.fr_base.specs.declared.request.Change.TheVariants.{Frame}
use Rattle.fr_tables.specs.Changes.{tables_of}
use Rattle.fr_tables.specs.Tables.{Tables, HasTables}
use Rattle.fr_world.specs.declared.edit.Edit.{Edit}
use Rattle.fr_world.specs.declared.edit.Edit.TheVariants.{NewFlat, Rows}

-- whether the change is that of a frame
abbrev pub is_of_frame : Change → Bool
is_of_frame (Frame frame change) = true
is_of_frame _ = false

-- whether the edit changes a frame, or adds copies of frames
abbrev pub changes_frame : Edit → Bool
changes_frame (Rows rows) = is_of_frame rows.change
changes_frame (NewFlat v from) = true
changes_frame _ = false

-- none of the edits changes a frame
abbrev pub ChangeNoFrame : List Edit → Type 0
ChangeNoFrame = All (λ edit. changes_frame edit ≡ false)

-- the rows of frames, of their placements and signals, and of dropped frames are as they were
pub record HasSameFrames (old new : Tables) : Type 0 where
  pub frames : new.frames ≡ old.frames
  pub placements : new.placements ≡ old.placements
  pub signals : new.signals ≡ old.signals
  pub dropped : new.dropped ≡ old.dropped

-- Statements inside a transaction leave the rows of frames, or one of them fails.
abbrev pub SparesFrames : {X E : Type 0} → State → State → Result X E → Type 0
SparesFrames old new r = HasCleanDisk new → IsTrue old.in_transaction → HasTables old.now → OnOk r (HasSameFrames (tables_of old) (tables_of new))
