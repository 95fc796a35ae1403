-- A page takes the edits that a replacement is decided to, each of which changes a frame.
use Rattle.std.proofs.Common.{◌≡◌, ◌≤◌, Bool, List, [], ◌∷◌, map, Option, Some, None, Result, Ok, Err, IfOk, refl, subst}
use Rattle.std.specs.List.{AllByRecursion}
use Rattle.std.proofs.lemmas.List.Elements.{recursion_from_All}
use Rattle.fr_base.specs.Tables.{get}
use Rattle.fr_base.specs.Parameters.{check_params}
use Rattle.fr_base.specs.Step.{OwnRows, frame_of_row, kind_of_row}
use Rattle.fr_base.specs.declared.import.Header.{Header}
use Rattle.fr_base.specs.declared.import.Row.{Row}
use Rattle.fr_base.specs.declared.import.Row.TheVariants as row
use Rattle.fr_base.specs.declared.import.RowRead.{RowRead}
use Rattle.fr_base.specs.declared.name.Name.{Name}
use Rattle.fr_base.specs.declared.refusal.Refusal.{Refusal}
use Rattle.fr_base.specs.declared.request.Change.TheVariants as change
use Rattle.fr_base.specs.declared.request.FrameChange.{FrameChange}
use Rattle.fr_base.proofs.ParametersLaws.{few_words}
use Rattle.fr_base.proofs.SoundRefusing.{gives_bind, gives_unless}
use Rattle.fr_base.proofs.SoundImports.{at_line-gives}
use Rattle.fr_world.specs.Decisions.{IsChecked}
use Rattle.fr_world.specs.Edits.{Leads, all_edited}
use Rattle.fr_world.specs.PageEdits.{edits_between}
use Rattle.fr_world.specs.Pages.{IsKept, PageData, own_rows_of}
use Rattle.fr_world.specs.ReplacementDecisions.{AreAdmitted, begun, clear_all, clear_frame, clear_frames, clearing, free_row, free_rows, freeing, replace_read, replace_row, replace_rows, replacement_decision, with_changes}
use Rattle.fr_world.specs.RowDecisions.{AreChecked, DraftData, IsCheckedRow, draft_of, make_frame}
use Rattle.fr_world.specs.declared.edit.Edit.{Edit}
use Rattle.fr_world.proofs.DraftSteps.{make-ok}
use Rattle.fr_world.proofs.FreeingLaws.{clearing-admitted, freeing-admitted, page-named}
use Rattle.fr_world.proofs.LedFrames.{AreLeading, led-between, page-own}
use Rattle.fr_world.proofs.RowsLead.{IsLed, IsOfFrame, frame-led, leads-last, make-led, row-led}

module _ (v : Name) (frozen : Bool) (start : OwnRows) (words : start.params.payload_words ≤ 127) where
  abbrev Led : DraftData → Type 0
  Led = IsLed v frozen start words

  -- changes of a frame that the page admits, one after the other
  changes-led : (f : Name) (whats : List FrameChange) (d : DraftData) → Led d → AreAdmitted d.page f whats → Led (with_changes d f whats)
  changes-led f [] d led admitted = led
  changes-led f (what ∷ rest) d led admitted =
      changes-led f rest _
      (subst (λ r. IfOk r Led) (make-ok d _ (change.Frame f what) admitted.0 refl) (make-led v frozen start words d led f what (subst (λ p. IsChecked p (change.Frame f what)) led.params admitted.1)))
      admitted.2

  freed-led : (d : DraftData) → Led d → (r : Result Row Refusal) → Led (free_row d r)
  freed-led d led (Ok r) =
      let there = get d.page.frames (d.page.supplier, frame_of_row r) in
      changes-led (frame_of_row r) (freeing (kind_of_row r) there) d led (freeing-admitted d.page (frame_of_row r) (kind_of_row r) there refl (page-named d.page led.page (d.page.supplier, frame_of_row r) there refl))
  freed-led d led (Err e) = led

  pub all_freed-led : (reads : List RowRead) (d : DraftData) → Led d → Led (free_rows d reads)
  all_freed-led [] d led = led
  all_freed-led (read ∷ rest) d led = all_freed-led rest (free_row d read.row) (freed-led d led read.row)

  clear_frames-led : (kind : Header) (reads : List RowRead) (names : List Name) (d : DraftData) → Led d → Led (clear_frames d kind reads names)
  clear_frames-led kind reads [] d led = led
  clear_frames-led kind reads (f ∷ rest) d led =
      let there = get d.page.frames (d.page.supplier, f) in
      clear_frames-led kind reads rest (clear_frame d kind reads f)
      (changes-led f (clearing kind reads f there) d led (clearing-admitted d.page f kind reads there refl (page-named d.page led.page (d.page.supplier, f) there refl)))

  cleared-led : (whole : Option Header) (reads : List RowRead) (d : DraftData) → Led d → Led (clear_all d whole reads)
  cleared-led None reads d led = led
  cleared-led (Some kind) reads d led = clear_frames-led kind reads (map (λ row. row.0.1) d.page.frames.rows) d led

  replace_row-led : (d : DraftData) → Led d → (r : Row) → IsCheckedRow start.params r → IfOk (replace_row d r) Led
  unfolding replace_row make_frame
  replace_row-led d led (row.AddFrame f n) checked = gives_unless _ _ _ _ (λ _. frame-led v frozen start words d led f n (get d.page.frames (d.page.supplier, f)))
  replace_row-led d led (row.Place f n q) checked = row-led v frozen start words d led (row.Place f n q) checked
  replace_row-led d led (row.AddSignal f signal) checked = row-led v frozen start words d led (row.AddSignal f signal) checked

  replace_read-led : (d : DraftData) → Led d → (read : RowRead) → IfOk read.row (IsCheckedRow start.params) → IfOk (replace_read d read) Led
  unfolding replace_read
  replace_read-led d led read checked = at_line-gives Led read.line _ (gives_bind Led (IsCheckedRow start.params) read.row _ checked (λ r fine. replace_row-led d led r fine))

  replace_rows-led : (reads : List RowRead) (d : DraftData) → Led d → AllByRecursion (λ read. IfOk read.row (IsCheckedRow start.params)) reads → IfOk (replace_rows d reads) Led
  unfolding replace_rows
  replace_rows-led [] d led checked = led
  replace_rows-led (read ∷ rest) d led checked = gives_bind Led Led (replace_read d read) _ (replace_read-led d led read checked.0) (λ e next. replace_rows-led rest e next checked.1)

module _ (rows : PageData) (params : check_params rows.params ≡ Ok rows.params) (kept : IsKept rows) (whole : Option Header) (reads : List RowRead) (checked : AreChecked rows.params reads) where
  abbrev page : OwnRows
  page = own_rows_of rows

  -- the page takes them, and they are of frames
  abbrev AreLed : List Edit → Type 0
  AreLed edits = Leads rows.variant page edits (all_edited page edits) × AllByRecursion (IsOfFrame rows.params) edits

  abbrev words : rows.params.payload_words ≤ 127
  words = few_words rows.params params

  drafted : IfOk (replace_rows (begun (draft_of rows) whole reads) reads) (IsLed rows.variant rows.released page words)
  drafted =
      replace_rows-led rows.variant rows.released page words reads (begun (draft_of rows) whole reads)
      (all_freed-led rows.variant rows.released page words reads (clear_all (draft_of rows) whole reads)
      (cleared-led rows.variant rows.released page words whole reads (draft_of rows)
      (record { variant = refl; released = refl; supplier = refl; params = refl; leads = refl; page = kept.page; frames = tt }))) (recursion_from_All _ reads checked)

  -- the draft that they make is of the same supplier and variant, and they lead to its page
  pub replacement-led : (d : DraftData) → replace_rows (begun (draft_of rows) whole reads) reads ≡ Ok d → IsLed rows.variant rows.released page words d
  replacement-led d e = subst (λ r. IfOk r (IsLed rows.variant rows.released page words)) e drafted

  -- so the edits between the page and what they make of it lead too
  pub replacement-between : (d : DraftData) → IsLed rows.variant rows.released page words d → AreLeading rows.variant rows.released page words kept.page (page-own rows) (edits_between rows.variant page d.page) d.page
  replacement-between d led = led-between rows.variant rows.released page words kept.page (page-own rows) d led

  decided : IfOk (replacement_decision rows whole reads) AreLed
  unfolding replacement_decision
  decided =
      gives_bind _ (IsLed rows.variant rows.released page words) (replace_rows (begun (draft_of rows) whole reads) reads) _ drafted
      (λ d led.
      let between = replacement-between d led in
      let edits : List Edit = edits_between rows.variant page d.page in
      (subst (Leads rows.variant page edits) (leads-last rows.variant page d.page edits between.leads) between.leads, between.frames))

  pub replacement-leads : (edits : List Edit) → replacement_decision rows whole reads ≡ Ok edits → AreLed edits
  replacement-leads edits e = subst (λ r. IfOk r AreLed) e decided
