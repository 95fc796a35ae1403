-- Edit of a frame: what it makes of the tables.
use Rattle.std.specs.Prelude.{◌≡◌, false, Option, Some, is_some, IsTrue, Result, OnOk}
use Rattle.sqlite.specs.State.{State, HasCleanDisk}
use Rattle.fr_base.specs.Tables.{get, contains}
use Rattle.fr_base.specs.Cluster.{Cluster}
use Rattle.fr_base.specs.Book.{Frame, Variant, Book}
use Rattle.fr_base.specs.Changes.{in_rows}
use Rattle.fr_base.specs.declared.request.Change.TheVariants.{Frame as OfFrame}
use Rattle.fr_base.specs.declared.request.FrameChange.{FrameChange}
use Rattle.fr_base.specs.declared.request.FrameChange.TheVariants.{Add, Place, Unplace}
use Rattle.fr_world.specs.BookEdits.{applied}
use Rattle.fr_world.specs.Fits.{IsOpen, IsCounted}
use Rattle.fr_world.specs.declared.edit.Edit.TheVariants.{Rows}
use Rattle.fr_tables.specs.declared.frame_key.FrameKey.{FrameKey}
use Rattle.fr_store.specs.Reading.{Stands}

-- a frame or a placement that is added is new; a frame that is changed or dropped is there, and so
-- is a placement that ends; `there` is what stands at the frame's name
abbrev pub FitsAt : Option Frame → FrameChange → Type 0
FitsAt there (Add node) = is_some there ≡ false
FitsAt (Some frame) (Place q) = contains frame.placements q ≡ false
FitsAt (Some frame) (Unplace q) = IsTrue (contains frame.placements q)
FitsAt there what = IsTrue (is_some there)

-- Statements inside a transaction make this change of the supplier's frame in the open variant, or fail.
abbrev pub EditsFrame : {X E : Type 0} → FrameKey → FrameChange → State → State → Result X E → Type 0
EditsFrame key what old new r =
    HasCleanDisk new → IsTrue old.in_transaction → (c : Cluster) (b : Book) (x : Variant) → Stands old c b → IsOpen b key.variant x
    → FitsAt (get x.frames (key.supplier, key.frame)) what → IsCounted c.params (OfFrame key.frame what)
    → OnOk r (Stands new c (applied b (Rows (in_rows key.supplier key.variant (OfFrame key.frame what)))))
