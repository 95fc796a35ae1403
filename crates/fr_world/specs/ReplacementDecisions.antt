-- Decision on a replacement: the edits that its rows are decided to on a page, or the first refused
-- row. First each frame that a row names is freed, or all where the file is whole. Then the rows act
-- in turn. The edits are those between the page and what becomes of it.
use Rattle.std.specs.Prelude.{◌≡◌, if◌then◌else◌, List, [], ◌∷◌, map, Option, Some, None, Result, Ok, Err, ⊤}
use Rattle.std.specs.List.{list_any}
use Rattle.fr_base.specs.Refusing.{◌>>=◌}
use Rattle.fr_base.specs.Tables.{get}
use Rattle.fr_base.specs.Book.{Frame}
use Rattle.fr_base.specs.Queries.{placements_in}
use Rattle.fr_base.specs.Step.{OwnRows, RefusedAt, at_line, frame_of_row, kind_of_row, names_with}
use Rattle.fr_base.specs.declared.import.Header.{Header}
use Rattle.fr_base.specs.declared.import.Header.TheVariants.{Frames, Placements, Signals}
use Rattle.fr_base.specs.declared.import.Row.{Row}
use Rattle.fr_base.specs.declared.import.Row.TheVariants as row
use Rattle.fr_base.specs.declared.import.RowRead.{RowRead}
use Rattle.fr_base.specs.declared.name.Name.{Name}
use Rattle.fr_base.specs.declared.refusal.Refusal.{Refusal}
use Rattle.fr_base.specs.declared.request.Change.TheVariants as change
use Rattle.fr_base.specs.declared.request.FrameChange.{FrameChange}
use Rattle.fr_base.specs.declared.request.FrameChange.TheVariants.{Drop, Unplace, DropSignal}
use Rattle.fr_world.specs.Decisions.{IsChecked, admits_alone}
use Rattle.fr_world.specs.Edits.{rows_after}
use Rattle.fr_world.specs.PageEdits.{edits_between}
use Rattle.fr_world.specs.Pages.{PageData, own_rows_of}
use Rattle.fr_world.specs.RowDecisions.{DraftData, draft_of, make_frame, make_row, with_change}
use Rattle.fr_world.specs.declared.edit.Edit.{Edit}

-- the changes that free what stands at a frame that rows of this kind name: each of its placements is taken back, or each
-- of its signals dropped
abbrev pub freeing : Header → Option Frame → List FrameChange
freeing Placements (Some frame) = map Unplace (placements_in frame)
freeing Signals (Some frame) = map (λ s. DropSignal s.name) frame.signals
freeing _ _ = []

-- the changes that clear what stands at a frame where the file is the whole of its kind: it is freed; and below the header of
-- frames it is dropped, unless a row names it together with the node that it has
abbrev pub clearing : Header → List RowRead → Name → Option Frame → List FrameChange
clearing Frames reads f (Some frame) = if list_any (λ read. names_with f frame.node read.row) reads then [] else Drop ∷ []
clearing Frames reads f None = []
clearing Placements reads f there = freeing Placements there
clearing Signals reads f there = freeing Signals there

-- The page admits the changes of the frame, one after another.
abbrev pub AreAdmitted : OwnRows → Name → List FrameChange → Type 0
AreAdmitted page f [] = ⊤
AreAdmitted page f (what ∷ rest) =
    (admits_alone page (change.Frame f what) ≡ Ok tt) × IsChecked page.params (change.Frame f what) × AreAdmitted (rows_after (change.Frame f what) page) f rest

-- the draft after changes of the frame, one after another
abbrev pub with_changes : DraftData → Name → List FrameChange → DraftData
with_changes d f [] = d
with_changes d f (what ∷ rest) = with_changes (with_change d (change.Frame f what)) f rest

-- the draft after the frame of a row was freed; a refused row names none
abbrev pub free_row : DraftData → Result Row Refusal → DraftData
free_row d (Ok row) = with_changes d (frame_of_row row) (freeing (kind_of_row row) (get d.page.frames (d.page.supplier, frame_of_row row)))
free_row d (Err refusal) = d

-- the draft after the frames of all rows were freed
abbrev pub free_rows : DraftData → List RowRead → DraftData
free_rows d [] = d
free_rows d (read ∷ rest) = free_rows (free_row d read.row) rest

-- the draft after the frame of this name was cleared
abbrev pub clear_frame : DraftData → Header → List RowRead → Name → DraftData
clear_frame d kind reads f = with_changes d f (clearing kind reads f (get d.page.frames (d.page.supplier, f)))

-- the draft after the frames of these names were cleared
abbrev pub clear_frames : DraftData → Header → List RowRead → List Name → DraftData
clear_frames d kind reads [] = d
clear_frames d kind reads (f ∷ rest) = clear_frames (clear_frame d kind reads f) kind reads rest

-- the draft after all frames were cleared; where no kind is given, none was
abbrev pub clear_all : DraftData → Option Header → List RowRead → DraftData
clear_all d None reads = d
clear_all d (Some kind) reads = clear_frames d kind reads (map (λ row. row.0.1) d.page.frames.rows)

-- the draft on which the rows act
abbrev pub begun : DraftData → Option Header → List RowRead → DraftData
begun d whole reads = free_rows (clear_all d whole reads) reads

-- what a row of a replacement does: a row of frames leaves a frame that is there with this node,
-- and else adds it; the others do what those of an import do
unfoldable pub replace_row : DraftData → Row → Result DraftData Refusal
replace_row d (row.AddFrame f n) = make_frame d f n
replace_row d (row.Place f n q) = make_row d (row.Place f n q)
replace_row d (row.AddSignal f signal) = make_row d (row.AddSignal f signal)

-- what a row does as it was read, unless its own text refuses it
unfoldable pub replace_read : DraftData → RowRead → Result DraftData RefusedAt
replace_read d read = at_line read.line (read.row >>= replace_row d)

-- what the rows do in turn, up to the first that is refused
unfoldable pub replace_rows : DraftData → List RowRead → Result DraftData RefusedAt
replace_rows d [] = Ok d
replace_rows d (read ∷ rest) = do
  after ← replace_read d read
  replace_rows after rest

-- the edits that lead a page to what the rows of a replacement make of it, or the first refused row
unfoldable pub replacement_decision : PageData → Option Header → List RowRead → Result (List Edit) RefusedAt
replacement_decision rows whole reads = do
  last ← replace_rows (begun (draft_of rows) whole reads) reads
  Ok (edits_between rows.variant (own_rows_of rows) last.page)
