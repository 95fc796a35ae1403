-- What the rows of a supplier's import are decided to on the supplier's page is what they make of the register.
use Rattle.std.proofs.Common.{◌≡◌, ℕ, ◌++◌, Bool, true, false, not, List, [], ◌∷◌, Option, Some, None, is_some, Result, Ok, Err, IfOk, IsTrue, refl, sym, ap, subst, ◌∙◌}
use Rattle.std.specs.Prelude.{⊤}
use Rattle.std.specs.List.{AllByRecursion}
use Rattle.std.specs.Option.{option_and_then}
use Rattle.std.proofs.lemmas.List.Elements.{All-from_recursion}
use Rattle.fr_base.specs.Refusing.{◌>>=◌, ◌>>◌, refuse◌when◌}
use Rattle.fr_base.specs.Tables.{get, contains}
use Rattle.fr_base.specs.Keys.{owned}
use Rattle.fr_base.specs.Names.{is_name}
use Rattle.fr_base.specs.Cluster.{Cluster}
use Rattle.fr_base.specs.Book.{Frame, Variant, Book, is_of}
use Rattle.fr_base.specs.ImportRows.{rows_of_body}
use Rattle.fr_base.specs.Sound.{IsSound}
use Rattle.fr_base.specs.Step.{OwnRows, own_rows, change_rows, frame_at, with_frame as book_frame, act_row, at_line, act_rows}
use Rattle.fr_base.specs.Changes.{in_rows}
use Rattle.fr_base.specs.declared.import.Row.{Row}
use Rattle.fr_base.specs.declared.import.Row.TheVariants as row
use Rattle.fr_base.specs.declared.import.RowRead.{RowRead}
use Rattle.fr_base.specs.declared.name.Name.{Name}
use Rattle.fr_base.specs.declared.params.Params.{Params}
use Rattle.fr_base.specs.declared.refusal.Refusal.{Refusal}
use Rattle.fr_base.specs.declared.refusal.Refusal.TheVariants.{NoNode, NodeDiffers, Released}
use Rattle.fr_base.specs.declared.request.Change.TheVariants as change
use Rattle.fr_base.specs.declared.request.FrameChange.{FrameChange}
use Rattle.fr_base.specs.declared.request.FrameChange.TheVariants.{Add, Place, AddSignal}
use Rattle.fr_base.proofs.AloneCells.{same_text-itself}
use Rattle.fr_base.proofs.ImportForms.{IsFormedRow, IsFormedRead, body-form}
use Rattle.fr_base.proofs.SoundChecks.{IsFormedFrame}
use Rattle.fr_base.proofs.SoundCommands.{change_rows-sound}
use Rattle.fr_base.proofs.SoundImports.{Keeps, change_rows-keeps}
use Rattle.fr_base.proofs.SoundTables.{get-passing}
use Rattle.fr_world.specs.BookEdits.{applied, all_applied}
use Rattle.fr_world.specs.Decisions.{admits_alone, decision}
use Rattle.fr_world.specs.Edits.{edited, rows_after}
use Rattle.fr_world.specs.Pages.{own_rows_of, page_in}
use Rattle.fr_world.specs.RowDecisions.{AreChecked, DraftData, IsCheckedRow, draft_of, make, make_frame, make_read, make_row, make_rows, rows_decision, with_change, with_frame}
use Rattle.fr_world.specs.declared.edit.Edit.{Edit}
use Rattle.fr_world.specs.declared.edit.Edit.TheVariants.{Rows}
use Rattle.fr_world.proofs.AgreeLaws.{edits-agree}
use Rattle.fr_world.proofs.PageLaws.{rows-registers}
use Rattle.fr_world.proofs.StepLaws.{supplier-decides}

-- one edit more
pub applied-more : (b : Book) (edits : List Edit) (edit : Edit) → all_applied b (edits ++ edit ∷ []) ≡ applied (all_applied b edits) edit
applied-more b [] edit = refl
applied-more b (e ∷ edits) edit = applied-more (applied b e) edits edit

pub of_ok : {A E : Type 0} (P : A → Type 0) (r : Result A E) (x : A) → r ≡ Ok x → IfOk r P → P x
of_ok P r x e h = subst (λ z. IfOk z P) e h

module _ (c : Cluster) (start : Book) (s v : Name) where
  -- the draft is the supplier's page of a book, to which its edits led
  pub record Draws (b : Book) (d : DraftData) : Type 0 where
    pub x : Variant
    pub there : get b.variants v ≡ Some x
    pub unreleased : x.released ≡ false
    pub known : IsTrue (contains b.suppliers s)
    pub sound : IsSound c b
    pub variant : d.variant ≡ v
    pub page : d.page ≡ own_rows c.params b s x
    pub edits : b ≡ all_applied start d.edits

  -- a book and its draft, or one refusal
  abbrev pub Like : {E : Type 0} → Result Book E → Result DraftData E → Type 0
  Like (Ok b) (Ok d) = Draws b d
  Like (Ok b) (Err e) = ⊥
  Like (Err e) (Ok d) = ⊥
  Like (Err e) (Err f) = e ≡ f

  pub like_bind : {E : Type 0} (r : Result Book E) (u : Result DraftData E) (f : Book → Result Book E) (g : DraftData → Result DraftData E) → Like r u → ((b : Book) (d : DraftData) → Draws b d → Like (f b) (g d)) → Like (r >>= f) (u >>= g)
  unfolding ◌>>=◌
  like_bind (Ok b) (Ok d) f g h k = k b d h
  like_bind (Ok b) (Err e) f g h k = absurd h
  like_bind (Err e) (Ok d) f g h k = absurd h
  like_bind (Err e) (Err f) g h k l = k

  pub like_when : {E : Type 0} (e : E) (t u : Bool) (r : Result Book E) (w : Result DraftData E) → t ≡ u → Like r w → Like ((refuse e when t) >> r) ((refuse e when u) >> w)
  unfolding refuse◌when◌ ◌>>◌
  like_when e true true r w same h = refl
  like_when e true false r w same h = cc
  like_when e false true r w same h = cc
  like_when e false false r w same h = h

  -- the node is asked first
  like_first : (t u : Bool) (r : Result Book Refusal) (w : Result DraftData Refusal) (f : Book → Result Book Refusal) (g : DraftData → Result DraftData Refusal) → t ≡ u → Like (r >>= f) (w >>= g) →
      Like ((refuse NoNode when not t) >> (r >>= f)) (((refuse NoNode when not u) >> w) >>= g)
  unfolding refuse◌when◌ ◌>>◌ ◌>>=◌
  like_first true true r w f g same h = h
  like_first true false r w f g same h = cc
  like_first false true r w f g same h = cc
  like_first false false r w f g same h = refl

  -- ---- one change

  module _ (b : Book) (x : Variant) (there : get b.variants v ≡ Some x) (unreleased : x.released ≡ false) (known : IsTrue (contains b.suppliers s)) (sound : IsSound c b) (f : Name) (what : FrameChange) where
    abbrev page : OwnRows
    page = own_rows c.params b s x

    abbrev edit : Edit
    edit = Rows (in_rows s v (change.Frame f what))

    -- what the page admits is done
    change-made : change_rows c.params b s v (change.Frame f what) ≡ (admits_alone page (change.Frame f what) >> Ok (applied b edit))
    unfolding decision refuse◌when◌ ◌>>◌ ◌>>=◌
    change-made =
        supplier-decides c b s v x f what sound there known
        ∙ ap (λ t. ((refuse Released when t) >> (admits_alone (own_rows_of (page_in c.params b s v x)) (change.Frame f what) >> Ok (edit ∷ []))) >>= λ edits. Ok (all_applied b edits)) unreleased
        ∙ ap (λ rows. (admits_alone rows (change.Frame f what) >> Ok (edit ∷ [])) >>= λ edits. Ok (all_applied b edits)) (rows-registers c b s v x)
        ∙ by_answer (admits_alone page (change.Frame f what))
      where
        by_answer : (r : Result ⊤ Refusal) → ((r >> Ok (edit ∷ [])) >>= λ edits. Ok (all_applied b edits)) ≡ (r >> Ok (applied b edit))
        by_answer (Ok t) = refl
        by_answer (Err e) = refl

    pub drawn : (frozen : Bool) (edits : List Edit) → b ≡ all_applied start edits → IsFormedFrame c.params f what → (t : ⊤) → admits_alone page (change.Frame f what) ≡ Ok t →
        Draws (applied b edit) (record { variant = v; released = frozen; page = rows_after (change.Frame f what) page; edits = edits ++ Rows (in_rows page.supplier v (change.Frame f what)) ∷ [] })
    unfolding ◌>>◌ edited own_rows
    drawn frozen edits led form t admitted =
        let made : change_rows c.params b s v (change.Frame f what) ≡ Ok (applied b edit) = change-made ∙ ap (λ r. r >> Ok (applied b edit)) admitted in
        let after = edits-agree c b s v x edit there (refl, refl) in
        let kept : Keeps b (applied b edit) = of_ok (Keeps b) _ _ made (change_rows-keeps c.params b s v (change.Frame f what)) in
        record {
          x = after.0;
          there = after.1;
          unreleased = after.3 ∙ unreleased;
          known = ap (λ table. contains table s) kept.suppliers ∙ known;
          sound = of_ok (IsSound c) _ _ made (change_rows-sound c b sound s v (change.Frame f what) form);
          variant = refl;
          page = sym after.2;
          edits = ap (λ d. applied d edit) led ∙ sym (applied-more start edits edit);
        }

    change-like : (frozen : Bool) (edits : List Edit) → b ≡ all_applied start edits → IsFormedFrame c.params f what →
        Like (change_rows c.params b s v (change.Frame f what)) (make (record { variant = v; released = frozen; page = page; edits = edits }) (change.Frame f what))
    unfolding make ◌>>◌
    change-like frozen edits led form = subst (λ r. Like r (make (record { variant = v; released = frozen; page = page; edits = edits }) (change.Frame f what))) (sym change-made) (by_answer (admits_alone page (change.Frame f what)) refl)
      where
        by_answer : (r : Result ⊤ Refusal) → admits_alone page (change.Frame f what) ≡ r → Like (r >> Ok (applied b edit)) (r >> Ok (with_change (record { variant = v; released = frozen; page = page; edits = edits }) (change.Frame f what)))
        by_answer (Ok t) e = drawn frozen edits led form t e
        by_answer (Err r) e = refl

  make-like : (b : Book) (d : DraftData) → Draws b d → (f : Name) (what : FrameChange) → IsFormedFrame c.params f what → Like (change_rows c.params b s v (change.Frame f what)) (make d (change.Frame f what))
  make-like b d draws f what form =
      subst (λ d. Like (change_rows c.params b s v (change.Frame f what)) (make d (change.Frame f what))) (λ i. record { variant = sym draws.variant i; released = d.released; page = sym draws.page i; edits = d.edits })
      (change-like b draws.x draws.there draws.unreleased draws.known draws.sound f what d.released d.edits draws.edits form)

  -- ---- a row

  pub frame-like : (b : Book) (d : DraftData) → Draws b d → (f n : Name) → IsTrue (is_name f) → (there : Option Frame) → Like (book_frame c.params b s v f n there) (with_frame d f n there)
  unfolding book_frame with_frame
  frame-like b d draws f n named None = make-like b d draws f (Add n) named
  frame-like b d draws f n named (Some frame) = like_when NodeDiffers _ _ _ _ refl draws

  -- what the page has of the supplier is what the book has
  pub node-shown : (b : Book) (d : DraftData) → Draws b d → (n : Name) → contains b.nodes (s, n) ≡ contains d.page.nodes (d.page.supplier, n)
  unfolding own_rows
  node-shown b d draws n =
      sym (ap is_some (get-passing owned (is_of s) b.nodes (s, n) (same_text-itself s))) ∙ ap (λ (p : OwnRows). contains p.nodes (p.supplier, n)) (sym draws.page)

  pub frame-shown : (b : Book) (d : DraftData) → Draws b d → (f : Name) → frame_at b s v f ≡ get d.page.frames (d.page.supplier, f)
  unfolding own_rows
  frame-shown b d draws f =
      ap (option_and_then (λ variant. get variant.frames (s, f))) draws.there
      ∙ sym (get-passing owned (is_of s) draws.x.frames (s, f) (same_text-itself s)) ∙ ap (λ (p : OwnRows). get p.frames (p.supplier, f)) (sym draws.page)

  pub row-like : (b : Book) (d : DraftData) → Draws b d → (r : Row) → IsFormedRow c.params r → Like (act_row c.params b s v r) (make_row d r)
  unfolding act_row make_row make_frame
  row-like b d draws (row.AddFrame f n) form = make-like b d draws f (Add n) form
  row-like b d draws (row.Place f n q) form =
      like_first _ _ _ _ _ _ (node-shown b d draws n)
      (like_bind (book_frame c.params b s v f n (frame_at b s v f)) (with_frame d f n (get d.page.frames (d.page.supplier, f))) _ _
      (subst (λ there. Like (book_frame c.params b s v f n (frame_at b s v f)) (with_frame d f n there)) (frame-shown b d draws f) (frame-like b d draws f n form.0 (frame_at b s v f)))
      (λ e g framed. make-like e g framed f (Place q) form.1))
  row-like b d draws (row.AddSignal f signal) form = make-like b d draws f (AddSignal signal) form

  -- ---- rows as they were read

  pub line-like : (line : ℕ) (r : Result Book Refusal) (u : Result DraftData Refusal) → Like r u → Like (at_line line r) (at_line line u)
  unfolding at_line
  line-like line (Ok b) (Ok d) h = h
  line-like line (Ok b) (Err e) h = absurd h
  line-like line (Err e) (Ok d) h = absurd h
  line-like line (Err e) (Err f) h = ap (λ r. record { line = line; refusal = r }) h

  read-like : (b : Book) (d : DraftData) → Draws b d → (r : Result Row Refusal) → IfOk r (IsFormedRow c.params) → Like (r >>= act_row c.params b s v) (r >>= make_row d)
  unfolding ◌>>=◌
  read-like b d draws (Ok r) form = row-like b d draws r form
  read-like b d draws (Err e) form = refl

  rows-like : (reads : List RowRead) (b : Book) (d : DraftData) → Draws b d → AllByRecursion (IsFormedRead c.params) reads → Like (act_rows c.params b s v reads) (make_rows d reads)
  unfolding act_rows make_rows make_read
  rows-like [] b d draws forms = draws
  rows-like (read ∷ rest) b d draws forms =
      like_bind _ _ _ _ (line-like read.line _ _ (read-like b d draws read.row forms.0)) (λ e g next. rows-like rest e g next forms.1)

  -- books and drafts that are alike have the same refusal, or the book is what the edits make of the first
  pub like-is : {E : Type 0} (r : Result Book E) (u : Result DraftData E) → Like r u → r ≡ ((u >>= λ d. Ok d.edits) >>= λ edits. Ok (all_applied start edits))
  unfolding ◌>>=◌
  like-is (Ok b) (Ok d) h = ap Ok h.edits
  like-is (Ok b) (Err e) h = absurd h
  like-is (Err e) (Ok d) h = absurd h
  like-is (Err e) (Err f) h = ap Err h

pub rows-decide : (c : Cluster) (b : Book) (s v : Name) (x : Variant) (body : List ℕ) → IsSound c b → get b.variants v ≡ Some x → x.released ≡ false → IsTrue (contains b.suppliers s) →
    act_rows c.params b s v (rows_of_body c.params body) ≡ (rows_decision (page_in c.params b s v x) (rows_of_body c.params body) >>= λ edits. Ok (all_applied b edits))
unfolding rows_decision
rows-decide c b s v x body sound there unreleased known =
    like-is c b s v _ _ (rows-like c b s v (rows_of_body c.params body) b (draft_of (page_in c.params b s v x))
    (record { x = x; there = there; unreleased = unreleased; known = known; sound = sound; variant = refl; page = rows-registers c b s v x; edits = refl })
    (body-form c.params body))

-- ---- the rows of a file are checked

formed-checked : (p : Params) (r : Result Row Refusal) → IfOk r (IsFormedRow p) → IfOk r (IsCheckedRow p)
formed-checked p (Ok (row.AddFrame f n)) form = tt
formed-checked p (Ok (row.Place f n q)) form = form.1
formed-checked p (Ok (row.AddSignal f signal)) form = form.1
formed-checked p (Err e) form = tt

pub all-checked : (p : Params) (reads : List RowRead) → AllByRecursion (IsFormedRead p) reads → AllByRecursion (λ read. IfOk read.row (IsCheckedRow p)) reads
all-checked p [] forms = tt
all-checked p (read ∷ rest) forms = (formed-checked p read.row forms.0, all-checked p rest forms.1)

pub rows-checked : (p : Params) (body : List ℕ) → AreChecked p (rows_of_body p body)
rows-checked p body = All-from_recursion _ (rows_of_body p body) (all-checked p (rows_of_body p body) (body-form p body))
