-- A page takes what it decides: each edit fits it, leads to what the change makes of it, and leaves rows that a page has.
use Rattle.std.proofs.Common.{◌≡◌, ℕ, ◌<◌, ◌≤◌, false, List, [], Option, Some, None, Result, Ok, Err, IfOk, IsTrue, refl, sym, ap, subst, ◌∙◌, ◌⊎◌, inl, inr, arith, true≢false, leb-false}
use Rattle.std.specs.Prelude.{⊤}
use Rattle.std.specs.Ordering.{eq_by_cmp}
use Rattle.std.proofs.lemmas.Bool.{cases_Bool, and_from}
use Rattle.std.proofs.lemmas.Bool.Decides.{Decides-eqb}
use Rattle.fr_base.specs.Refusing.{◌>>=◌, ◌or◌}
use Rattle.fr_base.specs.Tables.{Table, empty, get, contains, len, insert, remove, settle}
use Rattle.fr_base.specs.Keys.{owned, channel_slots, placement_order}
use Rattle.fr_base.specs.declared.limits.TheConstants.{MAX_FRAMES, MAX_PLACEMENTS}
use Rattle.fr_base.specs.Cells.{Cell, cells_of}
use Rattle.fr_base.specs.Schedule.{first_taken}
use Rattle.fr_base.specs.Parameters.{check_params}
use Rattle.fr_base.specs.Book.{Frame, Holder, Sender, held_by_node, granted, schedule_of}
use Rattle.fr_base.specs.Signals.{SignalData}
use Rattle.fr_base.specs.Layouts.{IsLayout, with_signal, without_signal, admits_signal}
use Rattle.fr_base.specs.Step.{OwnRows, Shared, shared_by, fills, in_use, cell_taken, layout_of, admits_frame, admits, grants_after, frame_after, frames_after}
use Rattle.fr_base.specs.Sound.{FitsCluster}
use Rattle.fr_base.specs.declared.channel.Channel.{Channel}
use Rattle.fr_base.specs.declared.name.Name.{Name}
use Rattle.fr_base.specs.declared.placement.Placement.{Placement}
use Rattle.fr_base.specs.declared.request.Change.{Change}
use Rattle.fr_base.specs.declared.request.Change.TheVariants as change
use Rattle.fr_base.specs.declared.request.FrameChange.{FrameChange}
use Rattle.fr_base.specs.declared.request.FrameChange.TheVariants.{Add, Drop, Place, Unplace, AddSignal, DropSignal}
use Rattle.fr_base.proofs.TableLaws.{equal}
use Rattle.fr_base.proofs.LayoutLaws.{empty-layout, admits_signal-layout, without_signal-layout}
use Rattle.fr_base.proofs.ParametersLaws.{few_words}
use Rattle.fr_base.proofs.SoundTables.{some_there, insert-cases, contains-cases, len-within, remove-stood, contains-fewer, get-remove_other, len-remove}
use Rattle.fr_base.proofs.SoundCells.{any_placement}
use Rattle.fr_base.proofs.SoundApart.{NoneShared, IsApart, new_frame-apart, insert-none_shared, remove-none_shared, lesser-apart, placed-apart}
use Rattle.fr_base.proofs.SoundRows.{all_meant, granted-more}
use Rattle.fr_base.proofs.SoundRefusing.{gives_next, gives_when, gives_unless, gives_last, gives_bind_last, gives_when_last, gives_unless_last}
use Rattle.fr_world.specs.Pages.{PageData, own_rows_of, IsPageFrame, IsPage, IsKept}
use Rattle.fr_world.specs.Decisions.{IsChecked, admits_alone, decision}
use Rattle.fr_world.specs.Edits.{FitsFrame, FitsRows, rows_after, edited, Leads}
use Rattle.fr_world.specs.declared.edit.Edit.{Edit}
use Rattle.fr_world.proofs.FitsLaws.{none_there, new_placement, new_signal}
use Rattle.fr_world.proofs.ApartLaws.{contained-all, all-contained, pairs-none_shared, none_shared-pairs}

-- ---- a frame put in, or gone

module _ (page : OwnRows) (fine : IsPage page) where
  abbrev none : NoneShared page.frames
  none = pairs-none_shared page.frames fine.apart

  -- a frame of the page is one of the page with other frames
  reframe : (t : Table owned Frame) (f : Frame) → IsPageFrame page f → IsPageFrame (record page { frames = t }) f
  reframe t f x = record { few = x.few; fits = x.fits; in_grants = x.in_grants; layout = x.layout }

  insert-page : (k : Name × Name) (g : Frame) → IsPageFrame page g → IsApart page.frames k g → IsTrue (contains page.frames k) ⊎ (len page.frames < MAX_FRAMES) → IsPage (record page { frames = insert page.frames k g })
  insert-page k g frame apart room = record {
    nodes = fine.nodes;
    frames = len-within page.frames k g MAX_FRAMES fine.frames room;
    each = λ j f e. reframe (insert page.frames k g) f (elim (insert-cases page.frames k g j f e) [
      | inl new ↦ subst (IsPageFrame page) new.1 frame
      | inr old ↦ fine.each j f old.1
    ]);
    apart = none_shared-pairs (insert page.frames k g) (insert-none_shared page.frames none k g apart);
  }

  remove-page : (k : Name × Name) → IsPage (record page { frames = remove page.frames k })
  remove-page k = record {
    nodes = fine.nodes;
    frames = len-remove owned page.frames k MAX_FRAMES fine.frames;
    each = λ j f e. reframe (remove page.frames k) f (fine.each j f (remove-stood owned page.frames k j f e));
    apart = none_shared-pairs (remove page.frames k) (remove-none_shared page.frames none k);
  }

  -- a frame without placements
  abbrev new_frame : Name → Frame
  new_frame n = record { node = n; placements = empty; signals = [] }

  new_frame-page : page.params.payload_words ≤ 127 → (k : Name × Name) (n : Name) → len page.frames < MAX_FRAMES → IsPage (record page { frames = insert page.frames k (new_frame n) })
  unfolding empty get len
  new_frame-page words k n room = insert-page k (new_frame n)
      (record {
        few = omega arith;
        fits = λ i d h. absurd (omega arith);
        in_grants = λ i d h. absurd (omega arith);
        layout = empty-layout page.params.payload_words words;
      })
      (new_frame-apart page.frames k n)
      (inr room)

  module _ (k : Name × Name) (f : Frame) (found : get page.frames k ≡ Some f) where
    -- a frame in place of another under its key, with no placement that the other had not
    lesser-page : (g : Frame) → ((q : Placement) → IsTrue (contains g.placements q) → IsTrue (contains f.placements q)) → IsPageFrame page g → IsPage (record page { frames = insert page.frames k g })
    lesser-page g had frame = insert-page k g frame (lesser-apart page.frames none k f found g had) (inl (some_there _ f found))

    module _ (q : Placement) where
      placed : Frame
      placed = record f { placements = insert f.placements q tt }

      placed-frame : FitsCluster page.params q → IsTrue (granted page.grants page.supplier f.node q) → len f.placements < MAX_PLACEMENTS → IsPageFrame page placed
      unfolding placed
      placed-frame fits holds room =
          let old = fine.each k f found in
          record {
            few = len-within f.placements q tt MAX_PLACEMENTS old.few (inr room);
            fits = contained-all (FitsCluster page.params) placed (λ r h. elim (contains-cases f.placements q tt r h) [
              | inl e ↦ subst (FitsCluster page.params) (sym e) fits
              | inr there ↦ all-contained (FitsCluster page.params) f old.fits r there
            ]);
            in_grants = contained-all (λ x. IsTrue (granted page.grants page.supplier f.node x)) placed (λ r h. elim (contains-cases f.placements q tt r h) [
              | inl e ↦ subst (λ x. IsTrue (granted page.grants page.supplier f.node x)) (sym e) holds
              | inr there ↦ all-contained (λ x. IsTrue (granted page.grants page.supplier f.node x)) f old.in_grants r there
            ]);
            layout = old.layout;
          }

      placed-page : FitsCluster page.params q → IsTrue (granted page.grants page.supplier f.node q) → len f.placements < MAX_PLACEMENTS → first_taken (schedule_of page.frames) (cells_of q) ≡ None → IsPage (record page { frames = insert page.frames k (record f { placements = insert f.placements q tt }) })
      unfolding placed
      placed-page fits holds room free = insert-page k placed (placed-frame fits holds room) (placed-apart page.frames none k f found q free) (inl (some_there _ f found))

      unplaced-page : IsPage (record page { frames = insert page.frames k (record f { placements = remove f.placements q }) })
      unplaced-page =
          let old = fine.each k f found in
          let had = contains-fewer placement_order f.placements q in
          let left : Frame = record f { placements = remove f.placements q } in
          lesser-page left had (record {
            few = len-remove placement_order f.placements q MAX_PLACEMENTS old.few;
            fits = contained-all (FitsCluster page.params) left (λ r h. all-contained (FitsCluster page.params) f old.fits r (had r h));
            in_grants = contained-all (λ x. IsTrue (granted page.grants page.supplier f.node x)) left (λ r h. all-contained (λ x. IsTrue (granted page.grants page.supplier f.node x)) f old.in_grants r (had r h));
            layout = old.layout;
          })

    signals-page : (signals : List SignalData) → IsLayout (record { words = page.params.payload_words; signals = signals }) → IsPage (record page { frames = insert page.frames k (record f { signals = signals }) })
    signals-page signals laid =
        let old = fine.each k f found in
        lesser-page (record f { signals = signals }) (λ q h. h) (record { few = old.few; fits = old.fits; in_grants = old.in_grants; layout = laid })

  -- ---- other grants

  regrant-page : (grants : Table channel_slots Holder) → ((k : Name × Name) (f : Frame) (q : Placement) → get page.frames k ≡ Some f → IsTrue (contains f.placements q) → IsTrue (granted page.grants page.supplier f.node q) → IsTrue (granted grants page.supplier f.node q)) →
      IsPage (record page { grants = grants })
  regrant-page grants still = record {
    nodes = fine.nodes;
    frames = fine.frames;
    each = λ k f e.
        let old = fine.each k f e in
        record {
          few = old.few;
          fits = old.fits;
          in_grants = contained-all (λ x. IsTrue (granted grants page.supplier f.node x)) f (λ q h. still k f q e h (all-contained (λ x. IsTrue (granted page.grants page.supplier f.node x)) f old.in_grants q h));
          layout = old.layout;
        };
    apart = fine.apart;
  }

-- where no placement fills a slot and channel, the placements lie in the other grants
still_granted : (grants : Table channel_slots Holder) (frames : Table owned Frame) (at : ℕ × Channel) (s n : Name) → in_use at frames ≡ false →
    (k : Name × Name) (f : Frame) (q : Placement) → get frames k ≡ Some f → IsTrue (contains f.placements q) → IsTrue (granted grants s n q) → IsTrue (granted (remove grants at) s n q)
unfolding granted in_use
still_granted grants frames at s n free k f q there within =
    all_meant q.channels _ _ (λ c meant h.
    let key : ℕ × Channel = (q.slot, c) in
    elim (cases_Bool (eq_by_cmp channel_slots.compare at key)) [
      | inl e ↦
          let same : at ≡ key = channel_slots.exact at key (equal _ e) in
          let used : IsTrue (fills at q) = ap (λ (x : ℕ × Channel). fills x q) same ∙ and_from _ _ ((Decides-eqb q.slot q.slot).1 refl) meant in
          absurd (true≢false (sym (any_placement (λ x. fills at x.1) frames k f q there within used) ∙ free))
      | inr other ↦ ap (held_by_node s n) (get-remove_other channel_slots grants at key other) ∙ h
    ])

-- ---- what the page admits

-- a placement that is not refused has no taken cell
not_taken : (r : Option (Cell × Sender)) (x : ⊤) → cell_taken r ≡ Ok x → r ≡ None
unfolding cell_taken
not_taken None x e = refl
not_taken (Some taken) x e = cc

both_hold : {A E : Type 0} (P Q : A → Type 0) (r : Result A E) → IfOk r P → IfOk r Q → IfOk r (λ a. P a × Q a)
both_hold P Q (Ok a) p q = (p, q)
both_hold P Q (Err e) p q = tt

module _ (page : OwnRows) (fine : IsPage page) where
  abbrev shared : Shared
  shared = shared_by page.grants page.frames

  abbrev Any : SignalData → Type 0
  Any s = ⊤

  module _ (f : Name) where
    abbrev k : Name × Name
    k = (page.supplier, f)

    -- the frame's change fits the page, and leaves one
    abbrev Leaves : Option Frame → FrameChange → Type 0
    Leaves there what = FitsFrame page.nodes page.supplier there what × IsPage (record page { frames = settle page.frames k (frame_after what there) })

    frame-leaves : page.params.payload_words ≤ 127 → (there : Option Frame) → get page.frames k ≡ there → (what : FrameChange) → IsChecked page.params (change.Frame f what) →
        IfOk (admits_frame page shared there what) (λ _. Leaves there what)
    unfolding admits_frame frame_after settle shared_by ◌or◌ ◌>>=◌
    frame-leaves words there found (Add n) checked =
        gives_unless _ _ _ _ (λ has.
        gives_when _ _ _ _ (λ other.
        gives_when_last _ _ _ (λ room.
        ((has, none_there there other), new_frame-page page fine words k n (leb-false _ _ room)))))
    frame-leaves words there found Drop checked = gives_unless_last _ _ _ (λ is. (is, remove-page page fine k))
    frame-leaves words (Some frame) found (Place q) checked =
        gives_unless _ _ _ _ (λ holds.
        gives_when _ _ _ _ (λ room.
        gives_last (λ _. Leaves (Some frame) (Place q)) (cell_taken (first_taken (schedule_of page.frames) (cells_of q))) (λ y free.
        (new_placement page.params page.frames k frame q checked found (not_taken _ y free), placed-page page fine k frame found q checked holds (leb-false _ _ room) (not_taken _ y free)))))
    frame-leaves words (Some frame) found (Unplace q) checked =
        gives_unless_last _ _ _ (λ there.
        (there, unplaced-page page fine k frame found q))
    frame-leaves words (Some frame) found (AddSignal signal) checked =
        both_hold _ _ (admits_signal (layout_of page.params frame) signal) (new_signal (layout_of page.params frame) signal)
        (gives_bind_last _ _ (admits_signal (layout_of page.params frame) signal)
        (admits_signal-layout Any (layout_of page.params frame) signal ((fine.each k frame found).layout, λ i d h. tt) checked tt)
        (λ _ laid. signals-page page fine k frame found (with_signal signal frame.signals) laid.0))
    frame-leaves words (Some frame) found (DropSignal name) checked =
        gives_unless_last _ _ _ (λ there. (
          there,
          signals-page page fine k frame found (without_signal name frame.signals)
              (without_signal-layout Any (layout_of page.params frame) name ((fine.each k frame found).layout, λ i d h. tt)).0,
        ))
    frame-leaves words None found (Place q) checked = tt
    frame-leaves words None found (Unplace q) checked = tt
    frame-leaves words None found (AddSignal signal) checked = tt
    frame-leaves words None found (DropSignal name) checked = tt

  -- so does what changes of the page's rows
  pub rows-leave : page.params.payload_words ≤ 127 → (what : Change) → IsChecked page.params what → IfOk (admits_alone page what) (λ _. FitsRows page what × IsPage (rows_after what page))
  unfolding admits grants_after frames_after shared_by
  rows-leave words (change.Grant slot channel node) checked =
      gives_unless _ _ _ _ (λ has.
      gives_when _ _ _ _ (λ other.
      gives_when _ _ _ _ (λ free.
      gives_when_last _ _ _ (λ _.
      ((has, none_there _ free), regrant-page page fine _ (λ j f q _ _. granted-more page.grants (slot, channel) _ free page.supplier f.node q))))))
  rows-leave words (change.Revoke slot channel) checked =
      gives_unless _ _ _ _ (λ holds.
      gives_when_last _ _ _ (λ free.
      (holds, regrant-page page fine _ (λ j f q at within. still_granted page.grants page.frames (slot, channel) page.supplier f.node free j f q at within))))
  rows-leave words (change.Frame f what) checked = frame-leaves f words (get page.frames (page.supplier, f)) refl what checked

-- ---- what the page decides

module _ (rows : PageData) (params : check_params rows.params ≡ Ok rows.params) (kept : IsKept rows) (what : Change) (checked : IsChecked rows.params what) where
  abbrev page : OwnRows
  page = own_rows_of rows

  -- where its edits lead
  abbrev Ends : List Edit → Type 0
  Ends edits = Leads rows.variant page edits (rows_after what page)

  decided : IfOk (decision rows what) Ends
  unfolding decision edited
  decided =
      gives_when _ _ rows.released _ (λ _.
      gives_next _ _ (admits_alone page what) _ (rows-leave page kept.page (few_words rows.params params) what checked) (λ _ leaves.
      (record { own = (refl, refl); leaves = leaves.1 }, leaves.0, refl)))

pub decision-leads : (rows : PageData) (what : Change) (edits : List Edit) → check_params rows.params ≡ Ok rows.params → IsKept rows → IsChecked rows.params what → decision rows what ≡ Ok edits →
    Leads rows.variant (own_rows_of rows) edits (rows_after what (own_rows_of rows))
decision-leads rows what edits params kept checked e = subst (λ r. IfOk r (Ends rows params kept what checked)) e (decided rows params kept what checked)
