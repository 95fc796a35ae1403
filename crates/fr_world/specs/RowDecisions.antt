-- Decision on rows: the edits that the rows of an import are decided to on a page, or the first
-- refused row. Each row is decided on the rows that those before it left. Which rows are checked.
use Rattle.std.specs.Prelude.{◌++◌, Bool, not, List, [], ◌∷◌, Option, Some, None, Result, Ok, IfOk, IsTrue, All, ⊤}
use Rattle.fr_base.specs.Refusing.{◌>>=◌, ◌>>◌, refuse◌when◌}
use Rattle.fr_base.specs.Tables.{get, contains}
use Rattle.fr_base.specs.Names.{same_text}
use Rattle.fr_base.specs.Book.{Frame}
use Rattle.fr_base.specs.Signals.{is_signal_length}
use Rattle.fr_base.specs.Sound.{FitsCluster}
use Rattle.fr_base.specs.Step.{OwnRows, RefusedAt, at_line}
use Rattle.fr_base.specs.Changes.{in_rows}
use Rattle.fr_base.specs.declared.import.Row.{Row}
use Rattle.fr_base.specs.declared.import.Row.TheVariants as row
use Rattle.fr_base.specs.declared.import.RowRead.{RowRead}
use Rattle.fr_base.specs.declared.name.Name.{Name}
use Rattle.fr_base.specs.declared.params.Params.{Params}
use Rattle.fr_base.specs.declared.refusal.Refusal.{Refusal}
use Rattle.fr_base.specs.declared.refusal.Refusal.TheVariants.{NoNode, NodeDiffers}
use Rattle.fr_base.specs.declared.request.Change.{Change}
use Rattle.fr_base.specs.declared.request.Change.TheVariants as change
use Rattle.fr_base.specs.declared.request.FrameChange.TheVariants.{Add, Place, AddSignal}
use Rattle.fr_world.specs.Decisions.{admits_alone}
use Rattle.fr_world.specs.Edits.{rows_after}
use Rattle.fr_world.specs.Pages.{PageData, own_rows_of}
use Rattle.fr_world.specs.declared.edit.Edit.{Edit}
use Rattle.fr_world.specs.declared.edit.Edit.TheVariants.{Rows}

-- a supplier's rows of the variant, whether the variant is released, and the edits that led to them
pub record DraftData : Type 0 where
  pub variant : Name
  pub released : Bool
  pub page : OwnRows
  pub edits : List Edit

-- the draft after a change
abbrev pub with_change : DraftData → Change → DraftData
with_change d what = record d { page = rows_after what d.page; edits = d.edits ++ Rows (in_rows d.page.supplier d.variant what) ∷ [] }

-- the draft after a change of the page, if it is admitted
unfoldable pub make : DraftData → Change → Result DraftData Refusal
make d what = do
  admits_alone d.page what
  Ok (with_change d what)

-- the draft with a row's frame: a frame that is there has the row's node, or else it is added
unfoldable pub with_frame : DraftData → Name → Name → Option Frame → Result DraftData Refusal
with_frame d f n None = make d (change.Frame f (Add n))
with_frame d f n (Some frame) = do
  refuse NodeDiffers when not (same_text frame.node n)
  Ok d

unfoldable pub make_frame : DraftData → Name → Name → Result DraftData Refusal
make_frame d f n = do
  refuse NoNode when not (contains d.page.nodes (d.page.supplier, n))
  with_frame d f n (get d.page.frames (d.page.supplier, f))

-- a row of frames adds the frame; a row of placements is its frame, and then its placement; a row of signals adds the signal
unfoldable pub make_row : DraftData → Row → Result DraftData Refusal
make_row d (row.AddFrame f n) = make d (change.Frame f (Add n))
make_row d (row.Place f n q) = do
  framed ← make_frame d f n
  make framed (change.Frame f (Place q))
make_row d (row.AddSignal f signal) = make d (change.Frame f (AddSignal signal))

-- what a row does as it was read, unless its own text refuses it
unfoldable pub make_read : DraftData → RowRead → Result DraftData RefusedAt
make_read d read = at_line read.line (read.row >>= make_row d)

-- what the rows do in turn, up to the first that is refused
unfoldable pub make_rows : DraftData → List RowRead → Result DraftData RefusedAt
make_rows d [] = Ok d
make_rows d (read ∷ rest) = do
  after ← make_read d read
  make_rows after rest

-- the draft of a page before any row
abbrev pub draft_of : PageData → DraftData
draft_of rows = record { variant = rows.variant; released = rows.released; page = own_rows_of rows; edits = [] }

-- the edits that lead a page to what the rows make of it, or the first refused row
unfoldable pub rows_decision : PageData → List RowRead → Result (List Edit) RefusedAt
rows_decision rows reads = do
  last ← make_rows (draft_of rows) reads
  Ok last.edits

-- A row's placement fits the cluster, and a row's signal has a length.
abbrev pub IsCheckedRow : Params → Row → Type 0
IsCheckedRow p (row.AddFrame f n) = ⊤
IsCheckedRow p (row.Place f n q) = FitsCluster p q
IsCheckedRow p (row.AddSignal f signal) = IsTrue (is_signal_length signal.length)

-- The placements of the rows that are read fit the cluster, and their signals have a length.
abbrev pub AreChecked : Params → List RowRead → Type 0
AreChecked p reads = All (λ read. IfOk read.row (IsCheckedRow p)) reads
