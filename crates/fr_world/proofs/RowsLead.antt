-- A page takes the edits that rows are decided to, each of which changes a frame.
use Rattle.std.proofs.Common.{◌≡◌, ◌≤◌, ◌++◌, Bool, false, List, [], ◌∷◌, Option, Some, None, Ok, IfOk, refl, sym, subst}
use Rattle.std.specs.List.{AllByRecursion, list_any}
use Rattle.std.proofs.lemmas.List.Elements.{recursion_from_All}
use Rattle.fr_base.specs.Tables.{get}
use Rattle.fr_base.specs.Names.{same_text}
use Rattle.fr_base.specs.Parameters.{check_params}
use Rattle.fr_base.specs.Book.{Frame}
use Rattle.fr_base.specs.Step.{OwnRows}
use Rattle.fr_base.specs.Changes.{in_rows}
use Rattle.fr_base.specs.declared.import.Row.{Row}
use Rattle.fr_base.specs.declared.import.Row.TheVariants as row
use Rattle.fr_base.specs.declared.import.RowRead.{RowRead}
use Rattle.fr_base.specs.declared.name.Name.{Name}
use Rattle.fr_base.specs.declared.params.Params.{Params}
use Rattle.fr_base.specs.declared.request.Change.{Change}
use Rattle.fr_base.specs.declared.request.Change.TheVariants as change
use Rattle.fr_base.specs.declared.request.FrameChange.{FrameChange}
use Rattle.fr_base.specs.declared.request.FrameChange.TheVariants.{Add, Drop, Place, Unplace, AddSignal, DropSignal}
use Rattle.fr_base.proofs.ParametersLaws.{few_words}
use Rattle.fr_base.proofs.SoundRefusing.{gives_bind, gives_next, gives_unless}
use Rattle.fr_base.proofs.SoundImports.{at_line-gives}
use Rattle.fr_world.specs.Decisions.{IsChecked, admits_alone}
use Rattle.fr_world.specs.Edits.{FitsPage, FitsRows, Leads, Takes, all_edited, edited, releases, rows_after}
use Rattle.fr_world.specs.Fits.{IsCounted}
use Rattle.fr_world.specs.Pages.{IsKept, IsPage, PageData, own_rows_of}
use Rattle.fr_world.specs.RowDecisions.{AreChecked, DraftData, IsCheckedRow, draft_of, make, make_frame, make_read, make_row, make_rows, rows_decision, with_frame}
use Rattle.fr_world.specs.declared.edit.Edit.{Edit}
use Rattle.fr_world.specs.declared.edit.Edit.TheVariants.{NewVariant, NewFlat, SetReleased, NewSupplier, SetKey, NewNode, Rows, KeepImport}
use Rattle.fr_world.proofs.LeadsLaws.{rows-leave}

module _ (v : Name) where
  -- one edit more
  leads-more : (page mid : OwnRows) (edits : List Edit) (edit : Edit) → Leads v page edits mid → Takes v mid edit → FitsPage mid edit → Leads v page (edits ++ edit ∷ []) (edited mid edit)
  leads-more page mid [] edit led takes fits =
      subst (λ (m : OwnRows). Takes v m edit × FitsPage m edit × (edited mid edit ≡ edited m edit)) led (takes, fits, refl)
  leads-more page mid (e ∷ edits) edit led takes fits = (led.0, led.1, leads-more (edited page e) mid edits edit led.2 takes fits)

  -- where edits lead
  pub leads-last : (page last : OwnRows) (edits : List Edit) → Leads v page edits last → last ≡ all_edited page edits
  leads-last page last [] led = led
  leads-last page last (e ∷ edits) led = leads-last (edited page e) last edits led.2

-- a placement that fits the cluster is of its cycles
pub is_counted : (p : Params) (what : Change) → IsChecked p what → IsCounted p what
is_counted p (change.Grant slot channel node) checked = tt
is_counted p (change.Revoke slot channel) checked = tt
is_counted p (change.Frame f (Add node)) checked = tt
is_counted p (change.Frame f Drop) checked = tt
is_counted p (change.Frame f (Place q)) checked = checked.count
is_counted p (change.Frame f (Unplace q)) checked = tt
is_counted p (change.Frame f (AddSignal signal)) checked = tt
is_counted p (change.Frame f (DropSignal name)) checked = tt

-- the change is of a frame, and a placement that it adds is of the cluster's cycles
abbrev pub IsFrameChange : Params → Change → Type 0
IsFrameChange p (change.Frame f what) = IsCounted p (change.Frame f what)
IsFrameChange p _ = ⊥

-- the same of an edit
abbrev pub IsOfFrame : Params → Edit → Type 0
IsOfFrame p (Rows rows) = IsFrameChange p rows.change
IsOfFrame p _ = ⊥

-- edits of frames release no variant
pub none-releases : (p : Params) (edits : List Edit) → AllByRecursion (IsOfFrame p) edits → list_any releases edits ≡ false
none-releases p [] all = refl
none-releases p (Rows rows ∷ edits) all = none-releases p edits all.1
none-releases p (NewVariant v parent depth ∷ edits) all = absurd all.0
none-releases p (NewFlat v from ∷ edits) all = absurd all.0
none-releases p (SetReleased v ∷ edits) all = absurd all.0
none-releases p (NewSupplier s key ∷ edits) all = absurd all.0
none-releases p (SetKey s key ∷ edits) all = absurd all.0
none-releases p (NewNode s n ∷ edits) all = absurd all.0
none-releases p (KeepImport s label v body rows ∷ edits) all = absurd all.0

frames-more : (p : Params) (edits : List Edit) (edit : Edit) → AllByRecursion (IsOfFrame p) edits → IsOfFrame p edit → AllByRecursion (IsOfFrame p) (edits ++ edit ∷ [])
frames-more p [] edit all one = (one, tt)
frames-more p (e ∷ edits) edit all one = (all.0, frames-more p edits edit all.1 one)

module _ (v : Name) (frozen : Bool) (start : OwnRows) (words : start.params.payload_words ≤ 127) where
  -- the edits led to the page, and its parameters and its supplier are those of the start
  pub record IsLed (d : DraftData) : Type 0 where
    pub variant : d.variant ≡ v
    pub released : d.released ≡ frozen
    pub supplier : d.page.supplier ≡ start.supplier
    pub params : d.page.params ≡ start.params
    pub leads : Leads v start d.edits d.page
    pub page : IsPage d.page
    pub frames : AllByRecursion (IsOfFrame start.params) d.edits

  pub make-led : (d : DraftData) → IsLed d → (f : Name) (part : FrameChange) → IsChecked start.params (change.Frame f part) → IfOk (make d (change.Frame f part)) IsLed
  unfolding make edited
  make-led d led f part checked =
      let what : Change = change.Frame f part in
      gives_next _ _ (admits_alone d.page what) _
      (rows-leave d.page led.page (subst (λ (p : Params). p.payload_words ≤ 127) (sym led.params) words) what (subst (λ p. IsChecked p what) (sym led.params) checked))
      (λ _ leaves. record {
        variant = led.variant;
        released = led.released;
        supplier = led.supplier;
        params = led.params;
        leads = leads-more v start d.page d.edits _ led.leads (record { own = (refl, led.variant); leaves = leaves.1 }) leaves.0;
        page = leaves.1;
        frames = frames-more start.params d.edits _ led.frames (is_counted start.params what checked);
      })

  pub frame-led : (d : DraftData) → IsLed d → (f n : Name) (there : Option Frame) → IfOk (with_frame d f n there) IsLed
  unfolding with_frame
  frame-led d led f n None = make-led d led f (Add n) tt
  frame-led d led f n (Some frame) = gives_unless _ _ (same_text frame.node n) _ (λ _. led)

  pub row-led : (d : DraftData) → IsLed d → (r : Row) → IsCheckedRow start.params r → IfOk (make_row d r) IsLed
  unfolding make_row make_frame
  row-led d led (row.AddFrame f n) checked = make-led d led f (Add n) tt
  row-led d led (row.Place f n q) checked =
      gives_bind _ IsLed (make_frame d f n) _
      (gives_unless _ _ _ _ (λ _. frame-led d led f n (get d.page.frames (d.page.supplier, f))))
      (λ e framed. make-led e framed f (Place q) checked)
  row-led d led (row.AddSignal f signal) checked = make-led d led f (AddSignal signal) checked

  read-led : (d : DraftData) → IsLed d → (read : RowRead) → IfOk read.row (IsCheckedRow start.params) → IfOk (make_read d read) IsLed
  unfolding make_read
  read-led d led read checked = at_line-gives IsLed read.line _ (gives_bind IsLed (IsCheckedRow start.params) read.row _ checked (λ r fine. row-led d led r fine))

  rows-led : (reads : List RowRead) (d : DraftData) → IsLed d → AllByRecursion (λ read. IfOk read.row (IsCheckedRow start.params)) reads → IfOk (make_rows d reads) IsLed
  unfolding make_rows
  rows-led [] d led checked = led
  rows-led (read ∷ rest) d led checked = gives_bind IsLed IsLed (make_read d read) _ (read-led d led read checked.0) (λ e next. rows-led rest e next checked.1)

module _ (rows : PageData) (params : check_params rows.params ≡ Ok rows.params) (kept : IsKept rows) (reads : List RowRead) (checked : AreChecked rows.params reads) where
  abbrev page : OwnRows
  page = own_rows_of rows

  -- the page takes them, and they are of frames
  abbrev AreLed : List Edit → Type 0
  AreLed edits = Leads rows.variant page edits (all_edited page edits) × AllByRecursion (IsOfFrame rows.params) edits

  abbrev words : rows.params.payload_words ≤ 127
  words = few_words rows.params params

  drafted : IfOk (make_rows (draft_of rows) reads) (IsLed rows.variant rows.released page words)
  drafted =
      rows-led rows.variant rows.released page words reads (draft_of rows)
      (record { variant = refl; released = refl; supplier = refl; params = refl; leads = refl; page = kept.page; frames = tt }) (recursion_from_All _ reads checked)

  -- the draft that they make is of the same supplier and variant, and they lead to its page
  pub draft-led : (d : DraftData) → make_rows (draft_of rows) reads ≡ Ok d → IsLed rows.variant rows.released page words d
  draft-led d e = subst (λ r. IfOk r (IsLed rows.variant rows.released page words)) e drafted

  decided : IfOk (rows_decision rows reads) AreLed
  unfolding rows_decision
  decided =
      gives_bind _ (IsLed rows.variant rows.released page words) (make_rows (draft_of rows) reads) _ drafted
      (λ d led. (subst (Leads rows.variant page d.edits) (leads-last rows.variant page d.page d.edits led.leads) led.leads, led.frames))

  pub frames-lead : (edits : List Edit) → rows_decision rows reads ≡ Ok edits → AreLed edits
  frames-lead edits e = subst (λ r. IfOk r AreLed) e decided

pub rows-lead : (rows : PageData) (reads : List RowRead) (edits : List Edit) → check_params rows.params ≡ Ok rows.params → IsKept rows → AreChecked rows.params reads → rows_decision rows reads ≡ Ok edits →
    Leads rows.variant (own_rows_of rows) edits (all_edited (own_rows_of rows) edits)
rows-lead rows reads edits params kept checked e = (frames-lead rows params kept reads checked edits e).0

-- a page takes a change that it admits
pub change-takes : (rows : PageData) → check_params rows.params ≡ Ok rows.params → IsKept rows → (what : Change) → IsChecked rows.params what → admits_alone (own_rows_of rows) what ≡ Ok tt →
    Takes rows.variant (own_rows_of rows) (Rows (in_rows rows.supplier rows.variant what))
unfolding edited
change-takes rows params kept what checked admitted =
    record { own = (refl, refl); leaves = (subst (λ r. IfOk r (λ _. FitsRows (own_rows_of rows) what × IsPage (rows_after what (own_rows_of rows)))) admitted (rows-leave (own_rows_of rows) kept.page (few_words rows.params params) what checked)).1 }
