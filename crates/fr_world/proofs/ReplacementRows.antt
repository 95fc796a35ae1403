-- A draft after rows of a replacement: what frees their frames, and then the rows.
use Rattle.std.proofs.Common.{◌≡◌, List, [], ◌∷◌, map, Option, Some, None, Result, Ok, Err, IfOk, refl, subst, ◌∙◌}
use Rattle.fr_base.specs.Refusing.{◌>>=◌}
use Rattle.fr_base.specs.Tables.{get}
use Rattle.fr_base.specs.Step.{at_line, frame_of_row, kind_of_row}
use Rattle.fr_base.specs.declared.import.Header.{Header}
use Rattle.fr_base.specs.declared.import.Row.{Row}
use Rattle.fr_base.specs.declared.import.Row.TheVariants as row
use Rattle.fr_base.specs.declared.import.RowRead.{RowRead}
use Rattle.fr_base.specs.declared.name.Name.{Name}
use Rattle.fr_base.specs.declared.refusal.Refusal.{Refusal}
use Rattle.fr_base.specs.declared.request.FrameChange.{FrameChange}
use Rattle.fr_base.proofs.SoundRefusing.{gives_each}
use Rattle.fr_base.proofs.SoundImports.{at_line-gives}
use Rattle.fr_world.specs.ReplacementDecisions.{begun, clear_all, clear_frame, clear_frames, clearing, free_row, free_rows, freeing, replace_read, replace_row, replace_rows, with_changes}
use Rattle.fr_world.specs.RowDecisions.{DraftData}
use Rattle.fr_world.specs.RowFaults.{IsFault}
use Rattle.fr_world.specs.declared.decision.import_rows.RowFault.{RowFault}
use Rattle.fr_world.proofs.DraftRows.{Keeps, frame-keeps, row-keeps, fault-on}

-- ---- the parameters stay

changes-keep : (f : Name) (whats : List FrameChange) (d : DraftData) → Keeps d (with_changes d f whats)
changes-keep f [] d = refl
changes-keep f (what ∷ rest) d = changes-keep f rest _

pub freed-params : (d : DraftData) (r : Result Row Refusal) → Keeps d (free_row d r)
freed-params d (Ok r) = changes-keep (frame_of_row r) (freeing (kind_of_row r) (get d.page.frames (d.page.supplier, frame_of_row r))) d
freed-params d (Err e) = refl

pub all_freed-params : (reads : List RowRead) (d : DraftData) → Keeps d (free_rows d reads)
all_freed-params [] d = refl
all_freed-params (read ∷ rest) d = all_freed-params rest (free_row d read.row) ∙ freed-params d read.row

clear_frames-params : (kind : Header) (reads : List RowRead) (names : List Name) (d : DraftData) → Keeps d (clear_frames d kind reads names)
clear_frames-params kind reads [] d = refl
clear_frames-params kind reads (f ∷ rest) d = clear_frames-params kind reads rest (clear_frame d kind reads f) ∙ changes-keep f (clearing kind reads f (get d.page.frames (d.page.supplier, f))) d

cleared-params : (whole : Option Header) (reads : List RowRead) (d : DraftData) → Keeps d (clear_all d whole reads)
cleared-params None reads d = refl
cleared-params (Some kind) reads d = clear_frames-params kind reads (map (λ row. row.0.1) d.page.frames.rows) d

pub begun-params : (whole : Option Header) (reads : List RowRead) (d : DraftData) → Keeps d (begun d whole reads)
begun-params whole reads d = all_freed-params reads (clear_all d whole reads) ∙ cleared-params whole reads d

pub replace_row-keeps : (d : DraftData) (r : Row) → IfOk (replace_row d r) (Keeps d)
unfolding replace_row
replace_row-keeps d (row.AddFrame f n) = frame-keeps d f n
replace_row-keeps d (row.Place f n q) = row-keeps d (row.Place f n q)
replace_row-keeps d (row.AddSignal f signal) = row-keeps d (row.AddSignal f signal)

replaced-keep : (d : DraftData) (read : RowRead) → IfOk (replace_read d read) (Keeps d)
unfolding replace_read
replaced-keep d read = at_line-gives (Keeps d) read.line _ (gives_each _ read.row _ (λ r _. replace_row-keeps d r))

pub replaced-params : (d e : DraftData) (read : RowRead) → replace_read d read ≡ Ok e → e.page.params ≡ d.page.params
replaced-params d e read is = subst (λ r. IfOk r (Keeps d)) is (replaced-keep d read)

-- ---- a row as it was read

module _ (d : DraftData) (read : RowRead) where
  pub replace-refused : (e : Refusal) → read.row ≡ Err e → replace_read d read ≡ Err (record { line = read.line; refusal = e })
  unfolding replace_read at_line ◌>>=◌
  replace-refused e is = rw is refl

  pub replace-made : (r : Row) (e : DraftData) → read.row ≡ Ok r → replace_row d r ≡ Ok e → replace_read d read ≡ Ok e
  unfolding replace_read at_line ◌>>=◌
  replace-made r e is made = rw (is, made) refl

  pub replace-row_refused : (r : Row) (e : Refusal) → read.row ≡ Ok r → replace_row d r ≡ Err e → replace_read d read ≡ Err (record { line = read.line; refusal = e })
  unfolding replace_read at_line ◌>>=◌
  replace-row_refused r e is refused = rw (is, refused) refl

-- ---- rows

pub replace-fault : (d : DraftData) (read : RowRead) (rest : List RowRead) (e : RowFault) → IsFault (replace_read d read) e → IsFault (replace_rows d (read ∷ rest)) e
unfolding replace_rows
replace-fault d read rest e is = fault-on (replace_read d read) _ e is

pub replace-next : (d m : DraftData) (read : RowRead) (rest : List RowRead) → replace_read d read ≡ Ok m → replace_rows d (read ∷ rest) ≡ replace_rows m rest
unfolding replace_rows ◌>>=◌
replace-next d m read rest made = rw made refl
