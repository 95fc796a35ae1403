-- What a supplier's replacement is decided to on the supplier's page is what it makes of the register.
use Rattle.std.proofs.Common.{◌≡◌, ℕ, false, not, List, [], ◌∷◌, map, Option, Some, None, Result, Ok, Err, IfOk, IsTrue, refl, sym, ap, subst, ◌∙◌, inl, inr}
use Rattle.std.specs.List.{AllByRecursion, list_any}
use Rattle.std.proofs.lemmas.Bool.{cases_Bool}
use Rattle.fr_base.specs.Refusing.{◌>>=◌}
use Rattle.fr_base.specs.Tables.{Fate, get, contains, settle}
use Rattle.fr_base.specs.Keys.{owned}
use Rattle.fr_base.specs.Cluster.{Cluster}
use Rattle.fr_base.specs.Book.{Frame, Variant, Book, is_of}
use Rattle.fr_base.specs.ImportRows.{rows_of_body}
use Rattle.fr_base.specs.Sound.{IsSound}
use Rattle.fr_base.specs.Step as step
use Rattle.fr_base.specs.Step.{OwnRows, own_rows, with_variant, changed, grants_after, frames_after, frame_at, with_frame as book_frame, frame_of_row, kind_of_row, freed, names_with, cleared, with_freed}
use Rattle.fr_base.specs.Changes.{in_rows}
use Rattle.fr_base.specs.declared.import.Header.{Header}
use Rattle.fr_base.specs.declared.import.Header.TheVariants.{Frames, Placements, Signals}
use Rattle.fr_base.specs.declared.import.Row.{Row}
use Rattle.fr_base.specs.declared.import.Row.TheVariants as row
use Rattle.fr_base.specs.declared.import.RowRead.{RowRead}
use Rattle.fr_base.specs.declared.name.Name.{Name}
use Rattle.fr_base.specs.declared.params.Params.{Params}
use Rattle.fr_base.specs.declared.placement.Placement.{Placement}
use Rattle.fr_base.specs.declared.refusal.Refusal.{Refusal}
use Rattle.fr_base.specs.declared.refusal.Refusal.TheVariants.{NoNode}
use Rattle.fr_base.specs.declared.request.Change.TheVariants as change
use Rattle.fr_base.specs.declared.request.FrameChange.{FrameChange}
use Rattle.fr_base.specs.declared.request.FrameChange.TheVariants.{Unplace, DropSignal}
use Rattle.fr_base.specs.Queries.{placements_in}
use Rattle.fr_base.specs.Signals.{SignalData}
use Rattle.fr_base.proofs.TableLaws.{insert-same}
use Rattle.fr_base.proofs.AloneCells.{same_text-itself}
use Rattle.fr_base.proofs.ImportForms.{IsFormedRow, IsFormedRead, body-form}
use Rattle.fr_base.proofs.SoundChecks.{IsFormedFrame}
use Rattle.fr_base.proofs.SoundTables.{get-passing, get-put, insert-again, same_some}
use Rattle.fr_world.specs.BookEdits.{applied, all_applied, changed_at}
use Rattle.fr_world.specs.Decisions.{admits_alone}
use Rattle.fr_world.specs.Edits.{Leads}
use Rattle.fr_world.specs.PageEdits.{edits_between}
use Rattle.fr_world.specs.Pages.{PageData, own_rows_of, page_in}
use Rattle.fr_world.specs.ReplacementDecisions.{AreAdmitted, begun, clear_all, clear_frame, clear_frames, clearing, free_row, free_rows, freeing, replace_read, replace_row, replace_rows, replacement_decision, with_changes}
use Rattle.fr_world.specs.RowDecisions.{DraftData, draft_of, make_frame, with_change, with_frame}
use Rattle.fr_world.specs.declared.edit.Edit.{Edit}
use Rattle.fr_world.specs.declared.edit.Edit.TheVariants.{Rows}
use Rattle.fr_world.proofs.FreeingLaws.{IsNamed, clearing-admitted, clearing-ends, ended, freeing-admitted, freeing-ends}
use Rattle.fr_world.proofs.PageLaws.{rows-kept, rows-registers}
use Rattle.fr_world.proofs.ReplacementsLead.{replacement-between, replacement-led}
use Rattle.fr_world.proofs.RowsDecide.{Draws, Like, drawn, frame-like, frame-shown, like_bind, like_when, line-like, node-shown, row-like, rows-checked}
use Rattle.fr_world.proofs.SameBooks.{led-alike, one-applied}

-- ---- the book after changes of one frame

module _ (s v f : Name) where
  abbrev edits_of : List FrameChange → List Edit
  edits_of whats = map (λ what. Rows (in_rows s v (change.Frame f what))) whats

  changes-applied : (whats : List FrameChange) (b : Book) (x : Variant) → get b.variants v ≡ Some x →
      all_applied b (edits_of whats) ≡ with_variant b v (record x { frames = ended s f x.frames whats })
  changes-applied [] b x there = ap (λ t. record b { variants = t }) (sym (insert-same b.variants v x there))
  changes-applied (what ∷ rest) b x there =
      let next : Variant = record x { frames = frames_after s (change.Frame f what) x.frames } in
      ap (λ d. all_applied d (edits_of rest)) (one-applied s v f b x there what)
      ∙ changes-applied rest (with_variant b v next) next (get-put b.variants v next)
      ∙ ap (λ t. record b { variants = t }) (insert-again b.variants v next (record next { frames = ended s f next.frames rest }))

-- ---- what frees a frame is formed

module _ (p : Params) (f : Name) where
  abbrev AreFormed : List FrameChange → Type 0
  AreFormed whats = AllByRecursion (IsFormedFrame p f) whats

  unplaces-formed : (qs : List Placement) → AreFormed (map Unplace qs)
  unplaces-formed [] = tt
  unplaces-formed (q ∷ qs) = (tt, unplaces-formed qs)

  drops-formed : (xs : List SignalData) → AreFormed (map (λ x. DropSignal x.name) xs)
  drops-formed [] = tt
  drops-formed (x ∷ xs) = (tt, drops-formed xs)

  freeing-formed : (kind : Header) (there : Option Frame) → AreFormed (freeing kind there)
  freeing-formed Frames there = tt
  freeing-formed Placements (Some frame) = unplaces-formed (placements_in frame)
  freeing-formed Placements None = tt
  freeing-formed Signals (Some frame) = drops-formed frame.signals
  freeing-formed Signals None = tt

  clearing-formed : (kind : Header) (reads : List RowRead) (there : Option Frame) → AreFormed (clearing kind reads f there)
  clearing-formed Frames reads (Some frame) = elim (cases_Bool (list_any (λ read. names_with f frame.node read.row) reads)) [
    | inl stays ↦ rw stays tt
    | inr goes ↦ rw goes (tt, tt)
  ]
  clearing-formed Frames reads None = tt
  clearing-formed Placements reads there = freeing-formed Placements there
  clearing-formed Signals reads there = freeing-formed Signals there

module _ (c : Cluster) (start : Book) (s v : Name) where
  abbrev Drawn : Book → DraftData → Type 0
  Drawn = Draws c start s v

  -- ---- frames that are freed

  one-drawn : (b : Book) (d : DraftData) → Drawn b d → (f : Name) (what : FrameChange) → IsFormedFrame c.params f what → admits_alone d.page (change.Frame f what) ≡ Ok tt →
      Drawn (applied b (Rows (in_rows s v (change.Frame f what)))) (with_change d (change.Frame f what))
  one-drawn b d draws f what form admitted =
      subst (λ e. admits_alone e.page (change.Frame f what) ≡ Ok tt → Drawn (applied b (Rows (in_rows s v (change.Frame f what)))) (with_change e (change.Frame f what)))
      (λ i. record { variant = sym draws.variant i; released = d.released; page = sym draws.page i; edits = d.edits })
      (drawn c start s v b draws.x draws.there draws.unreleased draws.known draws.sound f what d.released d.edits draws.edits form tt) admitted

  changes-drawn : (f : Name) (whats : List FrameChange) (b : Book) (d : DraftData) → Drawn b d → AreFormed c.params f whats → AreAdmitted d.page f whats → Drawn (all_applied b (edits_of s v f whats)) (with_changes d f whats)
  changes-drawn f [] b d draws forms admitted = draws
  changes-drawn f (what ∷ rest) b d draws forms admitted =
      changes-drawn f rest _ _ (one-drawn b d draws f what forms.0 admitted.0) forms.1 admitted.2

  -- what the page has at a frame is what the variant has
  shown : (b : Book) (d : DraftData) → (draws : Drawn b d) → (f : Name) → get draws.x.frames (s, f) ≡ get d.page.frames (d.page.supplier, f)
  unfolding own_rows
  shown b d draws f =
      sym (get-passing owned (is_of s) draws.x.frames (s, f) (same_text-itself s)) ∙ ap (λ (p : OwnRows). get p.frames (p.supplier, f)) (sym draws.page)

  -- whose signals have their own names
  named : (b : Book) → IsSound c b → (x : Variant) → get b.variants v ≡ Some x → (k : Name × Name) (there : Option Frame) → get x.frames k ≡ there → IsNamed there
  named b sound x found k None e = tt
  named b sound x found k (Some frame) e = ((sound.variants v x found).1.frames k frame e).layout.names

  -- the book with this variant in place of the one that is there
  same-book : (b : Book) (d : DraftData) → (draws : Drawn b d) → with_variant b v draws.x ≡ b
  same-book b d draws = ap (λ t. record b { variants = t }) (insert-same b.variants v draws.x draws.there)

  -- what a frame's changes make of the variant
  frame-drawn : (b : Book) (d : DraftData) → (draws : Drawn b d) → (f : Name) (whats : List FrameChange) (fate : Fate Frame) → AreFormed c.params f whats → AreAdmitted d.page f whats →
      ended s f draws.x.frames whats ≡ settle draws.x.frames (s, f) fate → Drawn (with_variant b v (record draws.x { frames = settle draws.x.frames (s, f) fate })) (with_changes d f whats)
  frame-drawn b d draws f whats fate formed admitted ends =
      subst (λ e. Drawn e (with_changes d f whats))
      (changes-applied s v f whats b draws.x draws.there ∙ ap (λ frames. with_variant b v (record draws.x { frames = frames })) ends)
      (changes-drawn f whats b d draws formed admitted)

  freed-drawn : (b : Book) (d : DraftData) → (draws : Drawn b d) → (r : Result Row Refusal) → Drawn (with_variant b v (record draws.x { frames = step.free_row s r draws.x.frames })) (free_row d r)
  unfolding step.free_row
  freed-drawn b d draws (Ok r) =
      let f : Name = frame_of_row r in
      let there : Option Frame = get d.page.frames (d.page.supplier, f) in
      let found = shown b d draws f in
      let apart = named b draws.sound draws.x draws.there (s, f) there found in
      let kind : Header = kind_of_row r in
      frame-drawn b d draws f (freeing kind there) (freed kind (get draws.x.frames (s, f))) (freeing-formed c.params f kind there) (freeing-admitted d.page f kind there refl apart)
      (freeing-ends s f kind draws.x.frames there found apart ∙ ap (λ o. settle draws.x.frames (s, f) (freed kind o)) (sym found))
  freed-drawn b d draws (Err e) = subst (λ e. Drawn e d) (sym (same-book b d draws)) draws

  -- the book where the frames that the rows name were freed
  abbrev freed_book : Book → Variant → List RowRead → Book
  freed_book b x reads = with_variant b v (record x { frames = step.free_rows s reads x.frames })

  all_freed-drawn : (reads : List RowRead) (b : Book) (d : DraftData) → (draws : Drawn b d) → Drawn (freed_book b draws.x reads) (free_rows d reads)
  unfolding step.free_rows
  all_freed-drawn [] b d draws = subst (λ e. Drawn e d) (sym (same-book b d draws)) draws
  all_freed-drawn (read ∷ rest) b d draws =
      let next : Variant = record draws.x { frames = step.free_row s read.row draws.x.frames } in
      let mid = freed-drawn b d draws read.row in
      let is : mid.x ≡ next = same_some _ _ (sym mid.there ∙ get-put b.variants v next) in
      subst (λ e. Drawn e (free_rows d (read ∷ rest)))
      (ap (λ y. freed_book (with_variant b v next) y rest) is
      ∙ ap (λ t. record b { variants = t }) (insert-again b.variants v next (record next { frames = step.free_rows s rest next.frames })))
      (all_freed-drawn rest (with_variant b v next) (free_row d read.row) mid)

  -- ---- frames that are cleared

  cleared-drawn : (b : Book) (d : DraftData) → (draws : Drawn b d) → (kind : Header) (reads : List RowRead) (f : Name) →
      Drawn (with_variant b v (record draws.x { frames = settle draws.x.frames (s, f) (cleared kind reads f (get draws.x.frames (s, f))) })) (clear_frame d kind reads f)
  cleared-drawn b d draws kind reads f =
      let there : Option Frame = get d.page.frames (d.page.supplier, f) in
      let found = shown b d draws f in
      let apart = named b draws.sound draws.x draws.there (s, f) there found in
      frame-drawn b d draws f (clearing kind reads f there) (cleared kind reads f (get draws.x.frames (s, f))) (clearing-formed c.params f kind reads there) (clearing-admitted d.page f kind reads there refl apart)
      (clearing-ends s f kind reads draws.x.frames there found apart ∙ ap (λ o. settle draws.x.frames (s, f) (cleared kind reads f o)) (sym found))

  -- the book where the frames of the names were cleared
  abbrev cleared_book : Book → Variant → Header → List RowRead → List Name → Book
  cleared_book b x kind reads names = with_variant b v (record x { frames = step.clear_frames s kind reads names x.frames })

  clear_frames-drawn : (kind : Header) (reads : List RowRead) (names : List Name) (b : Book) (d : DraftData) → (draws : Drawn b d) → Drawn (cleared_book b draws.x kind reads names) (clear_frames d kind reads names)
  unfolding step.clear_frames
  clear_frames-drawn kind reads [] b d draws = subst (λ e. Drawn e d) (sym (same-book b d draws)) draws
  clear_frames-drawn kind reads (f ∷ rest) b d draws =
      let next : Variant = record draws.x { frames = settle draws.x.frames (s, f) (cleared kind reads f (get draws.x.frames (s, f))) } in
      let mid = cleared-drawn b d draws kind reads f in
      let is : mid.x ≡ next = same_some _ _ (sym mid.there ∙ get-put b.variants v next) in
      subst (λ e. Drawn e (clear_frames d kind reads (f ∷ rest)))
      (ap (λ y. cleared_book (with_variant b v next) y kind reads rest) is
      ∙ ap (λ t. record b { variants = t }) (insert-again b.variants v next (record next { frames = step.clear_frames s kind reads rest next.frames })))
      (clear_frames-drawn kind reads rest (with_variant b v next) (clear_frame d kind reads f) mid)

  -- the page's frames are the supplier's of the variant
  names-shown : (b : Book) (d : DraftData) → (draws : Drawn b d) → map (λ row. row.0.1) d.page.frames.rows ≡ step.frame_names s draws.x.frames
  unfolding own_rows
  names-shown b d draws = ap (λ (p : OwnRows). map (λ row. row.0.1) p.frames.rows) draws.page

  -- the book where all were cleared, if the file is the whole of a kind
  abbrev all_cleared : Book → Variant → Option Header → List RowRead → Book
  all_cleared b x whole reads = with_variant b v (record x { frames = step.clear_all s whole reads x.frames })

  all_cleared-drawn : (whole : Option Header) (reads : List RowRead) (b : Book) (d : DraftData) → (draws : Drawn b d) → Drawn (all_cleared b draws.x whole reads) (clear_all d whole reads)
  unfolding step.clear_all
  all_cleared-drawn None reads b d draws = subst (λ e. Drawn e d) (sym (same-book b d draws)) draws
  all_cleared-drawn (Some kind) reads b d draws =
      subst (λ names. Drawn (cleared_book b draws.x kind reads names) (clear_all d (Some kind) reads)) (names-shown b d draws)
      (clear_frames-drawn kind reads (map (λ row. row.0.1) d.page.frames.rows) b d draws)

  -- the book on which the rows act
  pub begun-drawn : (whole : Option Header) (reads : List RowRead) (b : Book) (d : DraftData) → (draws : Drawn b d) → Drawn (with_freed b s v draws.x whole reads) (begun d whole reads)
  begun-drawn whole reads b d draws =
      let next : Variant = record draws.x { frames = step.clear_all s whole reads draws.x.frames } in
      let mid = all_cleared-drawn whole reads b d draws in
      let is : mid.x ≡ next = same_some _ _ (sym mid.there ∙ get-put b.variants v next) in
      subst (λ e. Drawn e (begun d whole reads))
      (ap (λ y. freed_book (with_variant b v next) y reads) is
      ∙ ap (λ t. record b { variants = t }) (insert-again b.variants v next (record next { frames = step.free_rows s reads next.frames })))
      (all_freed-drawn reads (with_variant b v next) (clear_all d whole reads) mid)

  -- ---- rows

  abbrev Alike : {E : Type 0} → Result Book E → Result DraftData E → Type 0
  Alike = Like c start s v

  pub replace_row-like : (b : Book) (d : DraftData) → Drawn b d → (r : Row) → IsFormedRow c.params r → Alike (step.replace_row c.params b s v r) (replace_row d r)
  unfolding step.replace_row replace_row make_frame
  replace_row-like b d draws (row.AddFrame f n) form =
      like_when c start s v NoNode _ _ _ _ (ap not (node-shown c start s v b d draws n))
      (subst (λ there. Alike (book_frame c.params b s v f n (frame_at b s v f)) (with_frame d f n there)) (frame-shown c start s v b d draws f) (frame-like c start s v b d draws f n form (frame_at b s v f)))
  replace_row-like b d draws (row.Place f n q) form = row-like c start s v b d draws (row.Place f n q) form
  replace_row-like b d draws (row.AddSignal f signal) form = row-like c start s v b d draws (row.AddSignal f signal) form

  replace_read-like : (b : Book) (d : DraftData) → Drawn b d → (r : Result Row Refusal) → IfOk r (IsFormedRow c.params) → Alike (r >>= step.replace_row c.params b s v) (r >>= replace_row d)
  unfolding ◌>>=◌
  replace_read-like b d draws (Ok r) form = replace_row-like b d draws r form
  replace_read-like b d draws (Err e) form = refl

  replace_rows-like : (reads : List RowRead) (b : Book) (d : DraftData) → Drawn b d → AllByRecursion (IsFormedRead c.params) reads → Alike (step.replace_rows c.params b s v reads) (replace_rows d reads)
  unfolding step.replace_rows replace_rows replace_read
  replace_rows-like [] b d draws forms = draws
  replace_rows-like (read ∷ rest) b d draws forms =
      like_bind c start s v _ _ _ _ (line-like c start s v read.line _ _ (replace_read-like b d draws read.row forms.0)) (λ e g next. replace_rows-like rest e g next forms.1)

-- ---- the edits between the two pages

-- a book and its draft have one refusal, or the book is what these edits make of the first
decided-is : {E : Type 0} (c : Cluster) (start : Book) (s v : Name) (edits : DraftData → List Edit) (r : Result Book E) (u : Result DraftData E) →
    ((b : Book) (d : DraftData) → u ≡ Ok d → Draws c start s v b d → b ≡ all_applied start (edits d)) → Like c start s v r u → r ≡ ((u >>= λ d. Ok (edits d)) >>= λ made. Ok (all_applied start made))
unfolding ◌>>=◌
decided-is c start s v edits (Ok b) (Ok d) each like = ap Ok (each b d refl like)
decided-is c start s v edits (Ok b) (Err e) each like = absurd like
decided-is c start s v edits (Err e) (Ok d) each like = absurd like
decided-is c start s v edits (Err e) (Err f) each like = ap Err like

pub replacement-decides : (c : Cluster) (b : Book) (s v : Name) (x : Variant) (whole : Option Header) (body : List ℕ) → IsSound c b → get b.variants v ≡ Some x → x.released ≡ false → IsTrue (contains b.suppliers s) →
    step.replace_rows c.params (with_freed b s v x whole (rows_of_body c.params body)) s v (rows_of_body c.params body)
    ≡ (replacement_decision (page_in c.params b s v x) whole (rows_of_body c.params body) >>= λ edits. Ok (all_applied b edits))
unfolding replacement_decision
replacement-decides c b s v x whole body sound there unreleased known =
    let reads : List RowRead = rows_of_body c.params body in
    let page : PageData = page_in c.params b s v x in
    let kept = rows-kept c b s v x sound there in
    let checked = rows-checked c.params body in
    let shows : own_rows_of page ≡ own_rows c.params b s x = rows-registers c b s v x in
    let draws : Draws c b s v b (draft_of page) =
    record { x = x; there = there; unreleased = unreleased; known = known; sound = sound; variant = refl; page = shows; edits = refl } in
    decided-is c b s v (λ d. edits_between v (own_rows_of page) d.page) _ (replace_rows (begun (draft_of page) whole reads) reads)
    (λ made d is drawn.
    let led = replacement-led page sound.cluster.params kept whole reads checked d is in
    let between = replacement-between page sound.cluster.params kept whole reads checked d led in
    drawn.edits
    ∙ led-alike c.params s v b x d.edits (edits_between v (own_rows_of page) d.page) d.page there
    led.frames (subst (λ rows. Leads v rows d.edits d.page) shows led.leads)
    between.frames (subst (λ rows. Leads v rows (edits_between v (own_rows_of page) d.page) d.page) shows between.leads))
    (replace_rows-like c b s v reads (with_freed b s v x whole reads) (begun (draft_of page) whole reads)
    (begun-drawn c b s v whole reads b (draft_of page) draws) (body-form c.params body))
