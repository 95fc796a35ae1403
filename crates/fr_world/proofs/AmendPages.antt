-- The page after an edit.
use Rattle.std.proofs.Common.{◌≡◌, ℕ, Bool, true, false, cond, List, [], ◌∷◌, Option, Some, None, option_map, Result, Ok, Err, OnOk, OnErr, IfSome, All, refl, sym, ap, subst, ◌∙◌}
use Rattle.std.specs.Prelude.{⊤}
use Rattle.std.specs.Cmp.{tied_itself}
use Rattle.std.specs.Ordering.{is_eq}
use Rattle.std.specs.Map.{lookup}
use Rattle.std.specs.BTreeMap.{is_at}
use Rattle.std.proofs.lemmas.List.Elements.{All-head, All-tail}
use Rattle.fr_base.specs.Tables.{Table, get, insert, remove, settle}
use Rattle.fr_base.specs.Keys.{owned}
use Rattle.fr_base.specs.Book as book
use Rattle.fr_base.specs.Layouts.{IsLayout, with_signal}
use Rattle.fr_base.specs.Signals.{SignalData}
use Rattle.fr_base.specs.Step.{OwnRows, grants_after, frame_after, frames_after}
use Rattle.fr_base.specs.declared.channel.Channel.{Channel}
use Rattle.fr_base.specs.declared.name.Name.{Name}
use Rattle.fr_base.specs.declared.placement.Placement.{Placement}
use Rattle.fr_base.specs.declared.refusal.Refusal.{Refusal}
use Rattle.fr_base.specs.declared.request.Change.{Change}
use Rattle.fr_base.specs.declared.request.Change.TheVariants.{Frame, Grant, Revoke}
use Rattle.fr_base.specs.declared.request.FrameChange.{FrameChange}
use Rattle.fr_base.specs.declared.request.RowsChange.{RowsChange}
use Rattle.fr_base.specs.declared.request.FrameChange.TheVariants.{AddSignal}
use Rattle.fr_base.proofs.TableLaws.{get-insert}
use Rattle.fr_world.specs.Amends.{AreChanged, HaveWords, LeavesLayout, as_frame, frame_at, nodes_of, grants_of}
use Rattle.fr_world.specs.Edits.{Takes, edited}
use Rattle.fr_world.specs.PageCells.{ArePlaced}
use Rattle.fr_world.specs.Pages.{AreInOrder, FrameData, PageData, IsInOrder, IsKept, IsPage, frame_data, frames_data, holder_of, own_rows_of}
use Rattle.fr_world.specs.declared.edit.Edit.{Edit}
use Rattle.fr_world.specs.declared.edit.Edit.TheVariants.{SetReleased, NewNode, Rows}
use Rattle.fr_world.specs.declared.page.ChannelSlot.{ChannelSlot}
use Rattle.fr_world.specs.declared.page.PageFrame.{PageFrame}
use Rattle.fr_world.proofs.KeyLaws.{name_cmp}
use Rattle.fr_world.proofs.AmendLaws.{get_frame, on_ok}

get_inserted : (frames : Table owned book.Frame) (k : Name × Name) (f : book.Frame) → get (insert frames k f) k ≡ Some f
get_inserted frames k f = get-insert frames k f k ∙ ap (λ r. cond (is_eq r) (Some f) (get frames k)) (tied_itself owned.total k)

words_at : (words : ℕ) (name : Name) (g : PageFrame) (frames : List (Name × PageFrame)) → frame_at name frames ≡ Some g → HaveWords words frames → g.layout.words ≡ words
words_at words name g [] found all = cc
words_at words name g (x ∷ xs) found all =
    by_test (is_at (name_cmp name) x.0) found (λ later. words_at words name g xs later (All-tail (λ (e : Name × FrameData). e.1.layout.words ≡ words) (x.0, frame_data x.1) (frames_data xs) all))
  where
    by_test : (b : Bool) → cond b (Some x.1) (lookup (is_at (name_cmp name)) xs) ≡ Some g → (frame_at name xs ≡ Some g → g.layout.words ≡ words) → g.layout.words ≡ words
    by_test true here rest =
        let one : x.1 ≡ g = cc in
        ap (λ (y : PageFrame). y.layout.words) (sym one) ∙ All-head (λ (e : Name × FrameData). e.1.layout.words ≡ words) (x.0, frame_data x.1) (frames_data xs) all
    by_test false here rest = rest here

-- the edit of these rows that makes another change
abbrev with_what : RowsChange → Change → Edit
with_what rows what = Rows (record rows { change = what })

-- The rows are seen as the page's value.
module _ (old seen : PageData) (view : old ≡ seen) (edit : Edit) (takes : Takes seen.variant (own_rows_of seen) edit) where
  -- the page that is to be
  abbrev aim : OwnRows
  aim = edited (own_rows_of seen) edit

  aim_is : (e : Edit) → edit ≡ e → edited (own_rows_of old) e ≡ aim
  aim_is e is = λ i. edited (own_rows_of (view i)) (sym is i)

  -- what becomes of the invariant
  pub kept : (r : Result ⊤ Refusal) (new : PageData) → IsKept old → OnOk r (own_rows_of new ≡ aim) → OnOk r (All (λ e. e.1.layout.words ≡ old.params.payload_words) old.frames → All (λ e. e.1.layout.words ≡ new.params.payload_words) new.frames) → OnOk r (IsInOrder old → IsInOrder new) → OnErr r (new ≡ old) → IsKept new
  kept (Ok x) new was page words order same = record { page = subst IsPage (sym page) takes.leaves; words = words was.words; order = order was.order }
  kept (Err e) new was page words order same = subst IsKept (sym same) was

  pub released_page : (v : Name) → edit ≡ SetReleased v → own_rows_of (record old { released = true }) ≡ aim
  unfolding edited
  released_page v is = aim_is (SetReleased v) is

  pub node_page : (s n : Name) (nodes : List Name) → edit ≡ NewNode s n → ((t : Name) → nodes_of t nodes ≡ insert (nodes_of t old.nodes) (t, n) tt) → own_rows_of (record old { nodes = nodes }) ≡ aim
  unfolding edited
  node_page s n nodes is table = ap (λ t. record (own_rows_of old) { nodes = t }) (table old.supplier) ∙ aim_is (NewNode s n) is

  pub grant_page : (rows : RowsChange) (n : Name) (k : ℕ) (c : Channel) (grants : List (ChannelSlot × Name)) → edit ≡ Rows rows → rows.change ≡ Grant k c n → ((t : Name) → grants_of t grants ≡ insert (grants_of t old.grants) (k, c) (holder_of t n)) →
      own_rows_of (record old { grants = grants }) ≡ aim
  unfolding edited grants_after frames_after
  grant_page rows n k c grants is at table = ap (λ t. record (own_rows_of old) { grants = t }) (table old.supplier) ∙ aim_is (with_what rows (Grant k c n)) (is ∙ ap (with_what rows) at)

  pub ended_page : (rows : RowsChange) (k : ℕ) (c : Channel) (grants : List (ChannelSlot × Name)) → edit ≡ Rows rows → rows.change ≡ Revoke k c → ((t : Name) → grants_of t grants ≡ remove (grants_of t old.grants) (k, c)) → own_rows_of (record old { grants = grants }) ≡ aim
  unfolding edited grants_after frames_after
  ended_page rows k c grants is at table = ap (λ t. record (own_rows_of old) { grants = t }) (table old.supplier) ∙ aim_is (with_what rows (Revoke k c)) (is ∙ ap (with_what rows) at)

  module _ {f : Name} {rows : RowsChange} {change what : FrameChange} (is : edit ≡ Rows rows) (at : rows.change ≡ Frame f change) (kind : change ≡ what) (frames : List (Name × PageFrame)) (same : frames_data frames ≡ old.frames) where
    -- the page's frames
    abbrev table : Table owned book.Frame
    table = (own_rows_of old).frames

    abbrev k : Name × Name
    k = (old.supplier, f)

    frames_page : aim ≡ record (own_rows_of old) { frames = settle table k (frame_after what (get table k)) }
    unfolding edited grants_after frames_after
    frames_page = sym (aim_is (with_what rows (Frame f what)) (is ∙ ap (with_what rows) (at ∙ ap (Frame f) kind)))

    change_page : (words : ℕ) (later : List (Name × PageFrame)) → AreChanged words f what frames later → own_rows_of (record old { frames = frames_data later }) ≡ aim
    change_page words later changed =
        ap (λ t. record (own_rows_of old) { frames = t }) (changed.table old.supplier)
        ∙ ap (λ (d : List (Name × FrameData)). let t = (own_rows_of (record old { frames = d })).frames in record (own_rows_of old) { frames = settle t k (frame_after what (get t k)) }) same
        ∙ sym frames_page

    kept_after : (Q : Type 0) (r : Result ⊤ Refusal) (later : List (Name × PageFrame)) → IsKept old → OnOk r (AreChanged old.params.payload_words f what frames later) → OnErr r ((frames_data later ≡ frames_data frames) × Q) → IsKept (record old { frames = frames_data later })
    kept_after Q (Ok x) later was changed err =
        kept (Ok x) (record old { frames = frames_data later }) was (change_page old.params.payload_words later changed)
        (λ all. changed.words (subst (λ (d : List (Name × FrameData)). All (λ e. e.1.layout.words ≡ old.params.payload_words) d) (sym same) all))
        (λ order. record { nodes = order.nodes; grants = order.grants; frames = changed.order (subst AreInOrder (sym same) order.frames) }) tt
    kept_after Q (Err e) later was ok err = subst IsKept (ap (λ (d : List (Name × FrameData)). record old { frames = d }) (sym (err.0 ∙ same))) was

    -- the page with the frames after the change, and what becomes of its invariant
    pub change_made : (Q : Type 0) (r : Result ⊤ Refusal) (later : List (Name × PageFrame)) (cells : List (Name × Placement)) → IsKept old → OnOk r (AreChanged old.params.payload_words f what frames later)
        → OnErr r ((frames_data later ≡ frames_data frames) × Q) → ArePlaced cells (frames_data later)
        → OnOk r (own_rows_of (record old { frames = frames_data later }) ≡ aim) × IsKept (record old { frames = frames_data later }) × ArePlaced cells (frames_data later)
    change_made Q r later cells was changed err placed = (on_ok r (change_page old.params.payload_words later) changed, kept_after Q r later was changed err, placed)

  -- the signals that an added one leaves a frame are those of a page
  module _ {f : Name} {rows : RowsChange} {change : FrameChange} {signal : SignalData} (is : edit ≡ Rows rows) (at : rows.change ≡ Frame f change) (kind : change ≡ AddSignal signal) (frames : List (Name × PageFrame)) (same : frames_data frames ≡ old.frames) (was : IsKept old) where
    added : (g : PageFrame) → frame_at f frames ≡ Some g → IsLayout (record { words = g.layout.words; signals = with_signal signal g.layout.signals })
    unfolding frame_after settle
    added g found =
        let table : Table owned book.Frame = (own_rows_of old).frames in
        let k : Name × Name = (old.supplier, f) in
        let frame : book.Frame = record (as_frame g) { signals = with_signal signal g.layout.signals } in
        let there : get table k ≡ Some (as_frame g) = ap (λ (d : List (Name × FrameData)). get (own_rows_of (record old { frames = d })).frames k) (sym same) ∙ get_frame old.supplier f frames ∙ ap (option_map as_frame) found in
        let later : aim ≡ record (own_rows_of old) { frames = insert table k frame } =
        frames_page is at kind frames same ∙ (λ i. record (own_rows_of old) { frames = settle table k (frame_after (AddSignal signal) (there i)) }) in
        let sound : IsPage (record (own_rows_of old) { frames = insert table k frame }) = subst IsPage later takes.leaves in
        let words : g.layout.words ≡ old.params.payload_words = words_at old.params.payload_words f g frames found (subst (λ (d : List (Name × FrameData)). All (λ e. e.1.layout.words ≡ old.params.payload_words) d) (sym same) was.words) in
        subst (λ w. IsLayout (record { words = w; signals = with_signal signal g.layout.signals })) (sym words) (sound.each k frame (get_inserted table k frame)).layout

    pub leaves_layout : IfSome (frame_at f frames) (LeavesLayout (AddSignal signal))
    leaves_layout = by_option (frame_at f frames) refl
      where
        by_option : (r : Option PageFrame) → frame_at f frames ≡ r → IfSome r (LeavesLayout (AddSignal signal))
        by_option None e = tt
        by_option (Some g) e = added g e
