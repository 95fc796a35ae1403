-- That an edit which fits is carried out, by what it is made of.
use Rattle.std.proofs.Common.{None, Some, Option, is_some, Result, refl, ap}
use Rattle.std.specs.Prelude.{⊤}
use Rattle.sqlite.specs.State.{State}
use Rattle.fr_base.specs.Tables.{Table, get}
use Rattle.fr_base.specs.Keys.{owned}
use Rattle.fr_base.specs.Book.{Frame}
use Rattle.fr_base.specs.Changes.{in_rows}
use Rattle.fr_base.specs.declared.name.Name.{Name}
use Rattle.fr_base.specs.declared.request.Change.TheVariants.{Frame as OfFrame}
use Rattle.fr_base.specs.declared.request.FrameChange.{FrameChange}
use Rattle.fr_base.specs.declared.request.FrameChange.TheVariants.{Add, Drop, Place, Unplace, AddSignal, DropSignal}
use Rattle.fr_world.specs.Edits.{FitsFrame}
use Rattle.fr_world.specs.declared.edit.Edit.TheVariants.{Rows}
use Rattle.fr_tables.specs.Rows.{key_of}
use Rattle.fr_store.specs.Applying.{CarriesOut}
use Rattle.fr_store.specs.FrameEdits.{FitsAt, EditsFrame}

pub fits_at : (nodes : Table owned ⊤) (s : Name) (there : Option Frame) (what : FrameChange) → FitsFrame nodes s there what → FitsAt there what
fits_at nodes s there (Add node) h = ap is_some h.1
fits_at nodes s there Drop h = h
fits_at nodes s (Some frame) (Place q) h = ap is_some h
fits_at nodes s (Some frame) (Unplace q) h = h
fits_at nodes s (Some frame) (AddSignal signal) h = refl
fits_at nodes s (Some frame) (DropSignal name) h = refl
fits_at nodes s None (Place q) h = absurd h
fits_at nodes s None (Unplace q) h = absurd h
fits_at nodes s None (AddSignal signal) h = absurd h
fits_at nodes s None (DropSignal name) h = absurd h

-- an edit of a frame that fits is carried out where its change is
pub frame_carried : {X E : Type 0} (v s f : Name) (what : FrameChange) (old new : State) (r : Result X E) → EditsFrame (key_of v s f) what old new r → CarriesOut (Rows (in_rows s v (OfFrame f what))) old new r
frame_carried v s f what old new r h clean inside c b stands fits =
    h clean inside c b fits.0 stands fits.1 (fits_at b.nodes s (get fits.0.frames (s, f)) what fits.2) fits.3
