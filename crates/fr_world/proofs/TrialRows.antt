-- A draft after a row that was tried: what it made of it, or the same, with a frame taken back that was added for the row.
use Rattle.std.proofs.Common.{◌≡◌, ◌++◌, Bool, true, false, not, cond, List, [], ◌∷◌, take, drop, length, get_or, ◌+◌, ◌<◌, ◌≤◌, Option, Some, None, is_some, Result, Ok, Err, is_err, IfOk, ℕ, refl, sym, ap, ◌∙◌, inl, inr, append_assoc, append-nil}
use Rattle.std.specs.Prelude.{⊤}
use Rattle.std.specs.Ordering.{eq_by_cmp}
use Rattle.std.proofs.lemmas.Bool.{cases_Bool}
use Rattle.std.proofs.lemmas.List.{drop_all, drop_more, take_all, take_more}
use Rattle.std.proofs.Math.Seq.{take-append_seam}
use Rattle.fr_base.specs.Refusing.{◌>>=◌, ◌>>◌, refuse◌when◌}
use Rattle.fr_base.specs.Tables.{Order, Table, empty, get, contains, insert, remove, settle}
use Rattle.fr_base.specs.Keys.{owned}
use Rattle.fr_base.specs.Names.{same_text}
use Rattle.fr_base.specs.Book.{Frame}
use Rattle.fr_base.specs.ImportRows.{up_to_refused}
use Rattle.fr_base.specs.Step.{admits, admits_frame, grants_after, frame_after, frames_after, fate_of, whole_of}
use Rattle.fr_base.specs.Changes.{in_rows}
use Rattle.fr_base.specs.declared.answer.FateRow.{FateRow}
use Rattle.fr_base.specs.declared.import.Header.{Header}
use Rattle.fr_base.specs.declared.import.Row.{Row}
use Rattle.fr_base.specs.declared.import.Row.TheVariants as row
use Rattle.fr_base.specs.declared.import.RowRead.{RowRead}
use Rattle.fr_base.specs.declared.name.Name.{Name}
use Rattle.fr_base.specs.declared.placement.Placement.{Placement}
use Rattle.fr_base.specs.declared.refusal.Refusal.{Refusal}
use Rattle.fr_base.specs.declared.refusal.Refusal.TheVariants.{NoNode, NodeDiffers}
use Rattle.fr_base.specs.declared.request.Change.TheVariants as change
use Rattle.fr_base.specs.declared.request.FrameChange.TheVariants.{Add, Drop, AddSignal}
use Rattle.fr_base.specs.declared.signal.Signal.{Signal}
use Rattle.fr_base.specs.declared.delivery.Manner.{Manner}
use Rattle.fr_base.specs.declared.delivery.Manner.TheVariants as manner
use Rattle.fr_base.proofs.TableLaws.{equal, get-insert, kept, same_table}
use Rattle.fr_base.proofs.SoundTables.{get-put, same_key}
use Rattle.fr_base.proofs.AloneTables.{get-remove}
use Rattle.fr_base.proofs.SoundRefusing.{gives_each}
use Rattle.fr_world.specs.Decisions.{admits_alone}
use Rattle.fr_world.specs.Edits.{rows_after}
use Rattle.fr_world.specs.Pages.{PageData}
use Rattle.fr_world.specs.ReplacementDecisions.{replace_row}
use Rattle.fr_world.specs.RowDecisions.{DraftData, draft_of, make, make_frame, make_row, with_change, with_frame}
use Rattle.fr_world.specs.Trials.{IsMade, fates_of, read_fate, trial, tried, try_row}
use Rattle.fr_world.specs.declared.edit.Edit.{Edit}
use Rattle.fr_world.specs.declared.edit.Edit.TheVariants.{Rows}
use Rattle.fr_world.proofs.DraftRows.{Keeps, row-keeps}
use Rattle.fr_world.proofs.ReplacementRows.{begun-params, replace_row-keeps}

-- ---- a row that is put in and taken out

module _ {K V : Type 0} (o : Order K) (t : Table o V) (k : K) (v : V) (none : get t k ≡ None) where
  apart : (q : K) → eq_by_cmp o.compare k q ≡ false → eq_by_cmp o.compare q k ≡ false
  apart q other = elim (cases_Bool (eq_by_cmp o.compare q k)) [
    | inl tie ↦ let same : q ≡ k = o.exact q k (equal _ tie) in let is : eq_by_cmp o.compare k q ≡ true = ap (eq_by_cmp o.compare k) same ∙ same_key o k in cc
    | inr e ↦ e
  ]

  gone : (q : K) (x : Option V) → eq_by_cmp o.compare k q ≡ true → kept (λ j _. not (eq_by_cmp o.compare k j)) q x ≡ None
  gone q None e = refl
  gone q (Some w) e = ap (λ b. cond (not b) (Some w) None) e

  still : (q : K) (x : Option V) → eq_by_cmp o.compare k q ≡ false → kept (λ j _. not (eq_by_cmp o.compare k j)) q x ≡ x
  still q None e = refl
  still q (Some w) e = ap (λ b. cond (not b) (Some w) None) e

  at_key : (q : K) → kept (λ j _. not (eq_by_cmp o.compare k j)) q (get (insert t k v) q) ≡ get t q
  at_key q = elim (cases_Bool (eq_by_cmp o.compare k q)) [
    | inl e ↦ gone q _ e ∙ sym (ap (get t) (sym (o.exact k q (equal _ e))) ∙ none)
    | inr e ↦ still q _ e ∙ get-insert t k v q ∙ ap (λ b. cond b (Some v) (get t q)) (apart q e)
  ]

  -- it was not there before
  pub taken_out : remove (insert t k v) k ≡ t
  taken_out = same_table _ _ (λ q. get-remove o (λ _ _. true) (insert t k v) k q ∙ at_key q)

-- ---- a frame that is added and taken back

module _ (d : DraftData) (f n : Name) where
  abbrev there : Option Frame
  there = get d.page.frames (d.page.supplier, f)

  abbrev added : DraftData
  added = with_change d (change.Frame f (Add n))

  -- the page is as it was
  page_back : there ≡ None → rows_after (change.Frame f Drop) added.page ≡ d.page
  unfolding grants_after frames_after frame_after settle
  page_back none = λ i. record d.page { frames = taken_out owned d.page.frames (d.page.supplier, f) (record { node = n; placements = empty; signals = [] }) none i }

  edits_back : (edit : Edit) → take (length d.edits) (added.edits ++ edit ∷ []) ≡ d.edits
  edits_back edit = ap (take (length d.edits)) (append_assoc d.edits _ _) ∙ take-append_seam d.edits _

  -- so is the draft, with as many edits
  pub draft_back : there ≡ None → (e : DraftData) → e ≡ with_change added (change.Frame f Drop) → record e { edits = take (length d.edits) e.edits } ≡ d
  draft_back none e is =
      ap (λ (m : DraftData). record m { edits = take (length d.edits) m.edits }) is
      ∙ (λ i. record d { page = page_back none i; edits = edits_back (Rows (in_rows d.page.supplier d.variant (change.Frame f Drop))) i })

  pub drop-admitted : admits_alone added.page (change.Frame f Drop) ≡ Ok tt
  unfolding admits admits_frame frames_after frame_after settle refuse◌when◌
  drop-admitted = rw (get-put d.page.frames (d.page.supplier, f)) refl

  -- a frame that was not there was added
  pub was_added : there ≡ None → (m : DraftData) → make_frame d f n ≡ Ok m → m ≡ added
  unfolding make_frame with_frame make ◌>>◌ refuse◌when◌
  was_added none m made = by (contains d.page.nodes (d.page.supplier, n)) (admits_alone d.page (change.Frame f (Add n))) (rw none at made)
    where
      by : (has : Bool) (r : Result ⊤ Refusal) → ((refuse NoNode when not has) >> (r >> Ok added)) ≡ Ok m → m ≡ added
      by true (Ok t) e = cc
      by true (Err r) e = cc
      by false r e = cc

  -- one that is there was left
  pub was_left : is_some there ≡ true → (m : DraftData) → make_frame d f n ≡ Ok m → m ≡ d
  unfolding make_frame with_frame ◌>>◌ refuse◌when◌
  was_left some m made = by (contains d.page.nodes (d.page.supplier, n)) there refl
    where
      by_node : (has same : Bool) → ((refuse NoNode when not has) >> ((refuse NodeDiffers when not same) >> Ok d)) ≡ Ok m → m ≡ d
      by_node true true e = cc
      by_node true false e = cc
      by_node false same e = cc

      by : (has : Bool) (o : Option Frame) → there ≡ o → m ≡ d
      by has None e = let no : false ≡ true = sym (ap is_some e) ∙ some in cc
      by has (Some frame) e = by_node (contains d.page.nodes (d.page.supplier, n)) (same_text frame.node n) (rw e at made)

-- ---- a row, of an import or of a replacement

module _ (d : DraftData) where
  pub try-place : (how : Manner) (f n : Name) (q : Placement) → try_row how d (row.Place f n q) ≡ make_row d (row.Place f n q)
  unfolding replace_row
  try-place (manner.Replace whole) f n q = refl
  try-place manner.Import f n q = refl

  pub try-signal : (how : Manner) (f : Name) (signal : Signal) → try_row how d (row.AddSignal f signal) ≡ make d (change.Frame f (AddSignal signal))
  unfolding replace_row make_row
  try-signal (manner.Replace whole) f signal = refl
  try-signal manner.Import f signal = refl

  pub try-add : (f n : Name) → try_row manner.Import d (row.AddFrame f n) ≡ make d (change.Frame f (Add n))
  unfolding make_row
  try-add f n = refl

  pub try-frame : (whole : Bool) (f n : Name) → try_row (manner.Replace whole) d (row.AddFrame f n) ≡ make_frame d f n
  unfolding replace_row
  try-frame whole f n = refl

  -- ---- what becomes of a row

  pub refused-fate : (how : Manner) (read : RowRead) (e : Refusal) → read.row ≡ Err e → read_fate how d read ≡ (d, record { line = read.line; refusal = Some e })
  unfolding read_fate fate_of ◌>>=◌
  refused-fate how read e is = rw is refl

  pub made-fate : (how : Manner) (read : RowRead) (r : Row) (new : DraftData) (refusal : Option Refusal) → read.row ≡ Ok r → IsMade d new (try_row how d r) refusal →
      read_fate how d read ≡ (new, record { line = read.line; refusal = refusal })
  unfolding read_fate fate_of ◌>>=◌
  made-fate how read r new None is made = rw (is, made) refl
  made-fate how read r new (Some e) is made = rw (is, made.0) (λ i. (sym made.1 i, record { line = read.line; refusal = Some e }))

-- ---- the rows up to the first that its own text refuses

read-on : (read : RowRead) (rest : List RowRead) → is_err read.row ≡ false → up_to_refused (read ∷ rest) ≡ read ∷ up_to_refused rest
unfolding up_to_refused
read-on read rest is = rw is refl

read-last : (read : RowRead) (rest : List RowRead) → is_err read.row ≡ true → up_to_refused (read ∷ rest) ≡ read ∷ []
unfolding up_to_refused
read-last read rest is = rw is refl

read-none : up_to_refused [] ≡ []
unfolding up_to_refused
read-none = refl

-- rows of which the first ones are read, and the row behind them
module _ (rows all : List RowRead) (i : ℕ) (so_far : all ≡ take i rows ++ up_to_refused (drop i rows)) where
  module _ (r : RowRead) (within : i < length rows) (is : r ≡ get_or rows i r) where
    left : drop i rows ≡ r ∷ drop (i + 1) rows
    left = drop_more rows i r within ∙ ap (λ q. q ∷ drop (i + 1) rows) (sym is)

    taken : take (i + 1) rows ≡ take i rows ++ r ∷ []
    taken = take_more rows i r within ∙ ap (λ q. take i rows ++ q ∷ []) (sym is)

    pub readable-next : is_err r.row ≡ false → all ≡ take (i + 1) rows ++ up_to_refused (drop (i + 1) rows)
    readable-next fine =
        so_far
        ∙ ap (λ l. take i rows ++ up_to_refused l) left
        ∙ ap (λ l. take i rows ++ l) (read-on r (drop (i + 1) rows) fine)
        ∙ sym (append_assoc (take i rows) (r ∷ []) (up_to_refused (drop (i + 1) rows)))
        ∙ ap (λ l. l ++ up_to_refused (drop (i + 1) rows)) (sym taken)

    pub readable-last : is_err r.row ≡ true → take (i + 1) rows ≡ all
    readable-last refused =
        taken
        ∙ ap (λ l. take i rows ++ l) (sym (read-last r (drop (i + 1) rows) refused))
        ∙ ap (λ l. take i rows ++ up_to_refused l) (sym left)
        ∙ sym so_far

  pub readable-end : length rows ≤ i → rows ≡ all
  readable-end over =
      sym (append-nil rows)
      ∙ ap (λ l. l ++ []) (sym (take_all i rows over))
      ∙ ap (λ l. take i rows ++ l) (sym read-none)
      ∙ ap (λ l. take i rows ++ up_to_refused l) (sym (drop_all i rows over))
      ∙ sym so_far

-- ---- the parameters stay

pub tried-params : (how : Manner) (d : DraftData) (header : Option Header) (reads : List RowRead) → (tried how d header reads).page.params ≡ d.page.params
tried-params (manner.Replace whole) d header reads = begun-params (whole_of whole header) (up_to_refused reads) d
tried-params manner.Import d header reads = refl

try_row-keeps : (how : Manner) (d : DraftData) (r : Row) → IfOk (try_row how d r) (Keeps d)
try_row-keeps (manner.Replace whole) d r = replace_row-keeps d r
try_row-keeps manner.Import d r = row-keeps d r

fate-keeps : (d : DraftData) (line : ℕ) (r : Result DraftData Refusal) → IfOk r (Keeps d) → Keeps d (fate_of d line r).0
unfolding fate_of
fate-keeps d line (Ok m) h = h
fate-keeps d line (Err e) h = refl

module _ (how : Manner) (d : DraftData) (read : RowRead) (m : DraftData) (fate : FateRow) (is : read_fate how d read ≡ (m, fate)) where
  pub fate-params : m.page.params ≡ d.page.params
  unfolding read_fate
  fate-params = sym (ap (λ z. z.0.page.params) is) ∙ fate-keeps d read.line _ (gives_each _ read.row _ (λ r _. try_row-keeps how d r))

  -- ---- rows

  pub fates-next : (rest : List RowRead) → fates_of how d (read ∷ rest) ≡ fate ∷ fates_of how m rest
  unfolding fates_of
  fates-next rest = ap (λ z. z.1 ∷ fates_of how z.0 rest) is

  -- told behind those before it
  pub fates-more : (fates new goal : List FateRow) (rest : List RowRead) → fates ++ fates_of how d (read ∷ rest) ≡ goal → new ≡ fates ++ fate ∷ [] → new ++ fates_of how m rest ≡ goal
  fates-more fates new goal rest so_far pushed =
      ap (λ l. l ++ fates_of how m rest) pushed ∙ append_assoc fates _ _ ∙ ap (λ l. fates ++ l) (sym (fates-next rest)) ∙ so_far

pub fates-end : (how : Manner) (d : DraftData) (fates goal : List FateRow) → fates ++ fates_of how d [] ≡ goal → fates ≡ goal
unfolding fates_of
fates-end how d fates goal e = sym (append-nil fates) ∙ e

pub trial-begins : (how : Manner) (page : PageData) (header : Option Header) (reads : List RowRead) (d : DraftData) → d ≡ tried how (draft_of page) header reads → fates_of how d reads ≡ trial how page header reads
unfolding trial
trial-begins how page header reads d is = ap (λ e. fates_of how e reads) is
