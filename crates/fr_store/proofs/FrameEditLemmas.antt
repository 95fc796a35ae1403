-- What the tables stand for after an edit of a frame.
use Rattle.std.proofs.Common.{◌≡◌, ℕ, Bool, true, false, not, ◌||◌, cond, None, Some, Option, List, [], map, filter, refl, sym, ap, ap₂, ◌∙◌, subst, subst₂, inl, inr, is_some, IsTrue, true≢false}
use Rattle.std.specs.List.{list_any}
use Rattle.std.specs.Ordering.{eq_by_cmp}
use Rattle.std.proofs.lemmas.Bool.{and_from}
use Rattle.std.proofs.lemmas.List.Sorted.{IsPermutation-refl}
use Rattle.sqlite.specs.State.{State}
use Rattle.sqlite_keyed.proofs.ListLemmas.{filter-map, filter_none, all_of}
use Rattle.fr_base.specs.Tables.{Fate, Becomes, Gone, empty, get, contains, insert, remove, settle}
use Rattle.fr_base.specs.Keys.{owned}
use Rattle.fr_base.specs.Cluster.{Cluster}
use Rattle.fr_base.specs.Book.{Frame, Variant, Book}
use Rattle.fr_base.specs.Layouts.{with_signal, without_signal}
use Rattle.fr_base.specs.Queries.{placements_in}
use Rattle.fr_base.specs.Signals.{SignalData}
use Rattle.fr_base.specs.Step.{with_variant, changed, grants_after, frames_after, frame_after}
use Rattle.fr_base.specs.Changes.{in_rows}
use Rattle.fr_base.specs.declared.name.Name.{Name}
use Rattle.fr_base.specs.declared.placement.Placement.{Placement}
use Rattle.fr_base.specs.declared.request.Change.TheVariants.{Frame as OfFrame}
use Rattle.fr_base.specs.declared.request.FrameChange.{FrameChange}
use Rattle.fr_base.specs.declared.request.FrameChange.TheVariants.{Add, Drop, Place, Unplace, AddSignal, DropSignal}
use Rattle.fr_base.proofs.SoundTables.{same_some, other_key}
use Rattle.fr_base.proofs.TableLaws.{equal}
use Rattle.fr_world.specs.Fits.{IsOpen}
use Rattle.fr_world.specs.BookEdits.{applied, changed_at}
use Rattle.fr_world.specs.declared.edit.Edit.TheVariants.{Rows}
use Rattle.fr_tables.specs.Rows.{FrameRow, PlacementRow, SignalRow, DroppedRow, key_of}
use Rattle.fr_tables.specs.Tables.{Tables}
use Rattle.fr_tables.specs.Changes.{Changes, tables_of}
use Rattle.fr_tables.specs.Statements as statements
use Rattle.fr_tables.specs.Statements.{with_dropped, is_dropped, with_frame, without_frame, with_placement, without_placement, is_frame, is_placement, is_placement_of, is_signal, is_signal_of, placement_row, signal_row}
use Rattle.fr_store.specs.StandsFor.{StandsFor, HoldsRows, HasHeads, IsFine, placement_rows, signal_rows, own_or, is_hidden, of_parent, seen}
use Rattle.fr_store.specs.Reading.{Stands}
use Rattle.fr_store.specs.FrameEdits.{FitsAt}
use Rattle.fr_store.specs.Owning.{IsStoredSo, is_own}
use Rattle.fr_store.proofs.ApartLemmas.{becomes, get-settle, get-settle_other, settle-cases, remove-settle}
use Rattle.fr_store.proofs.DroppedRows.{now_dropped, drops_elsewhere}
use Rattle.fr_store.proofs.FramePartLemmas.{is_it}
use Rattle.fr_store.proofs.FrameSections.{section}
use Rattle.fr_store.proofs.FrameChanges.{one_row, FramesTurn, PlacementsTurn, SignalsTurn, Shows, DropsElsewhere, as_dropped, frame_changed}
use Rattle.fr_store.proofs.FrameTurns.{turns_not, turns_more, turns_fewer}
use Rattle.fr_store.proofs.OwningLemmas.{own_as_shown, stored_so}
use Rattle.fr_store.proofs.PlacementSections.{own_text, none_there, of_frame, place_section, unplace_section}
use Rattle.fr_store.proofs.CountedLemmas.{fine_empty, fine_placed, fine_unplaced, fine_with, fine_without, each_counted}
use Rattle.fr_store.proofs.SignalSections.{add_section, of_signal, drop_section}

applied_is : (b : Book) (v s f : Name) (what : FrameChange) (x : Variant) → get b.variants v ≡ Some x
    → applied b (Rows (in_rows s v (OfFrame f what))) ≡ with_variant b v (record x { frames = settle x.frames (s, f) (frame_after what (get x.frames (s, f))) })
unfolding applied changed grants_after frames_after
applied_is b v s f what x there = ap (changed_at b v (changed s (OfFrame f what))) there

it_is : (v s f : Name) → is_it v s f v (s, f) ≡ true
it_is v s f = and_from _ _ (own_text v) (and_from _ _ (own_text s) (own_text f))

module _ (t : Tables) (count : ℕ) (b : Book) (h : HoldsRows t count b) (v s f : Name) (x : Variant) (is : IsOpen b v x) where
  -- the frame, where it is the variant's own
  abbrev own_there : Option Frame
  own_there = get (h.stored v).own (s, f)

  abbrev hidden : List DroppedRow → Name × Name → Bool
  hidden drops = is_hidden drops v (h.stored v)

  abbrev of_its_parent : Name × Name → Option Frame
  of_its_parent = of_parent b.variants x.parent

  settled_shows : (fate : Fate Frame) (drops : List DroppedRow) → DropsElsewhere t b v s f drops → own_or (becomes fate) (hidden drops (s, f)) (of_its_parent (s, f)) ≡ becomes fate
      → Shows t count b h v s f x is (settle (h.stored v).own (s, f) fate) (settle x.frames (s, f) fate) drops
  unfolding seen
  settled_shows fate drops elsewhere closes k = by_test (eq_by_cmp owned.compare (s, f) k) refl
    where
      by_test : (tie : Bool) → eq_by_cmp owned.compare (s, f) k ≡ tie
          → get (settle x.frames (s, f) fate) k ≡ own_or (get (settle (h.stored v).own (s, f) fate) k) (hidden drops k) (of_its_parent k)
      by_test true tie =
          subst (λ k. get (settle x.frames (s, f) fate) k ≡ own_or (get (settle (h.stored v).own (s, f) fate) k) (hidden drops k) (of_its_parent k)) (owned.exact (s, f) k (equal _ tie))
          (get-settle owned x.frames (s, f) fate ∙ sym closes ∙ ap (λ o. own_or o (hidden drops (s, f)) (of_its_parent (s, f))) (sym (get-settle owned (h.stored v).own (s, f) fate)))
      by_test false apart =
          get-settle_other owned x.frames (s, f) fate k apart ∙ (h.each v x is.there).frames k
          ∙ ap₂ (λ o hides. own_or o hides (of_its_parent k)) (sym (get-settle_other owned (h.stored v).own (s, f) fate k apart))
          (ap (λ is. not (h.stored v).overlay || is) (sym (elsewhere.others v k (λ same key. other_key owned (s, f) k apart (sym key)))))

  edited_with : (what : FrameChange) (there own : Option Frame) (fate : Fate Frame) (drops : List DroppedRow) → DropsElsewhere t b v s f drops
      → own_or (becomes fate) (hidden drops (s, f)) (of_its_parent (s, f)) ≡ becomes fate → get x.frames (s, f) ≡ there → own_there ≡ own → frame_after what there ≡ fate
      → ((g : Frame) → becomes fate ≡ Some g → IsFine count g) → (fs : List FrameRow) (ps : List PlacementRow) (ss : List SignalRow)
      → FramesTurn v s f own (becomes fate) t.frames fs → PlacementsTurn v s f own (becomes fate) t.placements ps → SignalsTurn v s f own (becomes fate) t.signals ss
      → HoldsRows (record t { frames = fs; placements = ps; signals = ss; dropped = drops }) count (applied b (Rows (in_rows s v (OfFrame f what))))
  edited_with what there own fate drops elsewhere closes at own_at after fine fs ps ss in_frames in_placements in_signals =
      let frames = settle x.frames (s, f) fate in
      let owns = settle (h.stored v).own (s, f) fate in
      let sorted = λ (k : Name × Name) (g : Frame) (found : get frames k ≡ Some g).
      let rises : IsFine count g = elim (settle-cases owned x.frames (s, f) fate k g found) [ inl new ↦ fine g new | inr old ↦ (h.each v x is.there).fine k g old ] in rises in
      let now_at : get owns (s, f) ≡ becomes fate = get-settle owned (h.stored v).own (s, f) fate in
      let turns = frame_changed t count b h v s f x is owns frames drops (remove-settle owned (h.stored v).own (s, f) fate) elsewhere (settled_shows fate drops elsewhere closes) sorted fs ps ss in
      let stands : HoldsRows (record t { frames = fs; placements = ps; signals = ss; dropped = drops }) count (with_variant b v (record x { frames = frames })) =
      turns
      (subst₂ (λ o p. FramesTurn v s f o p t.frames fs) (sym own_at) (sym now_at) in_frames)
      (subst₂ (λ o p. PlacementsTurn v s f o p t.placements ps) (sym own_at) (sym now_at) in_placements)
      (subst₂ (λ o p. SignalsTurn v s f o p t.signals ss) (sym own_at) (sym now_at) in_signals) in
      subst (HoldsRows (record t { frames = fs; placements = ps; signals = ss; dropped = drops }) count)
      (sym (applied_is b v s f what x is.there ∙ ap (λ fate. with_variant b v (record x { frames = settle x.frames (s, f) fate })) (ap (frame_after what) at ∙ after))) stands

  -- an edit after which the frame is there
  edited : (what : FrameChange) (there own : Option Frame) (next : Frame) → get x.frames (s, f) ≡ there → own_there ≡ own → frame_after what there ≡ Becomes next → IsFine count next
      → (fs : List FrameRow) (ps : List PlacementRow) (ss : List SignalRow)
      → FramesTurn v s f own (Some next) t.frames fs → PlacementsTurn v s f own (Some next) t.placements ps → SignalsTurn v s f own (Some next) t.signals ss
      → HoldsRows (record t { frames = fs; placements = ps; signals = ss }) count (applied b (Rows (in_rows s v (OfFrame f what))))
  edited what there own next at own_at after fine fs ps ss =
      edited_with what there own (Becomes next) t.dropped (as_dropped t count b h v s f) refl at own_at after (λ g is. subst (IsFine count) (same_some next g is) fine) fs ps ss

  fine_at : (frame : Frame) → get x.frames (s, f) ≡ Some frame → IsFine count frame
  fine_at frame at = (h.each v x is.there).fine (s, f) frame at

  -- a frame that the variant does not show is not its own
  not_own : get x.frames (s, f) ≡ None → own_there ≡ None
  unfolding seen
  not_own none = alone own_there (hidden t.dropped (s, f)) (of_its_parent (s, f)) (sym ((h.each v x is.there).frames (s, f)) ∙ none)
    where
      alone : (own : Option Frame) (hides : Bool) (inherited : Option Frame) → own_or own hides inherited ≡ None → own ≡ None
      alone None hides inherited h = refl
      alone (Some g) hides inherited h = absurd cc

  -- ---- a frame is added, or dropped

  pub new_frame : (node : Name) → is_some (get x.frames (s, f)) ≡ false
      → HoldsRows (with_frame (record { variant = v; supplier = s; name = f; node = node }) t) count (applied b (Rows (in_rows s v (OfFrame f (Add node)))))
  unfolding frame_after empty
  new_frame node new =
      let next : Frame = record { node = node; placements = empty; signals = [] } in
      let none : get x.frames (s, f) ≡ None = none_there _ new in
      edited (Add node) None None next none (not_own none) refl (fine_empty count node) _ _ _
      (turns_more one_row (is_frame (key_of v s f)) v s f None (Some next) t.frames _ (IsPermutation-refl _))
      (turns_not placement_rows (is_placement_of (key_of v s f)) v s f None (Some next) t.placements refl)
      (turns_not signal_rows (is_signal_of (key_of v s f)) v s f None (Some next) t.signals refl)

  module _ (o : Option Frame) where
    all_of_frames : filter (λ r. not (is_frame (key_of v s f) r)) (section one_row v s f o) ≡ []
    all_of_frames = by_frame o
      where
        by_frame : (o : Option Frame) → filter (λ r. not (is_frame (key_of v s f) r)) (section one_row v s f o) ≡ []
        by_frame None = refl
        by_frame (Some frame) = ap (λ b. cond (not b) (section one_row v s f (Some frame)) []) (it_is v s f)

    all_of_placements : filter (λ r. not (is_placement_of (key_of v s f) r)) (section placement_rows v s f o) ≡ []
    all_of_placements = by_frame o
      where
        by_frame : (o : Option Frame) → filter (λ r. not (is_placement_of (key_of v s f) r)) (section placement_rows v s f o) ≡ []
        by_frame None = refl
        by_frame (Some frame) =
            filter-map (λ r. not (is_placement_of (key_of v s f) r)) (placement_row (key_of v s f)) (placements_in frame)
            ∙ ap (map (placement_row (key_of v s f))) (filter_none (λ q. not (is_placement_of (key_of v s f) (placement_row (key_of v s f) q))) (placements_in frame) (all_of _ (λ q. ap not (it_is v s f)) (placements_in frame)))

    all_of_signals : filter (λ r. not (is_signal_of (key_of v s f) r)) (section signal_rows v s f o) ≡ []
    all_of_signals = by_frame o
      where
        by_frame : (o : Option Frame) → filter (λ r. not (is_signal_of (key_of v s f) r)) (section signal_rows v s f o) ≡ []
        by_frame None = refl
        by_frame (Some frame) =
            filter-map (λ r. not (is_signal_of (key_of v s f) r)) (signal_row (key_of v s f)) frame.signals
            ∙ ap (map (signal_row (key_of v s f))) (filter_none (λ y. not (is_signal_of (key_of v s f) (signal_row (key_of v s f) y))) frame.signals (all_of _ (λ y. ap not (it_is v s f)) frame.signals))

  -- the own rows go, if there are any, and the parent's frame is hidden
  ended : (frame : Frame) → get x.frames (s, f) ≡ Some frame → (drops : List DroppedRow) → DropsElsewhere t b v s f drops → hidden drops (s, f) ≡ true
      → HoldsRows (record (without_frame (key_of v s f) t) { dropped = drops }) count (applied b (Rows (in_rows s v (OfFrame f Drop))))
  unfolding frame_after
  ended frame there drops elsewhere hides =
      edited_with Drop (Some frame) own_there Gone drops elsewhere (ap (λ is. own_or None is (of_its_parent (s, f))) hides) there refl refl (λ g is. absurd cc) _ _ _
      (turns_fewer one_row (is_frame (key_of v s f)) v s f own_there None t.frames (is_frame (key_of v s f)) (λ r is. is) (all_of_frames own_there))
      (turns_fewer placement_rows (is_placement_of (key_of v s f)) v s f own_there None t.placements (is_placement_of (key_of v s f)) (λ r is. is) (all_of_placements own_there))
      (turns_fewer signal_rows (is_signal_of (key_of v s f)) v s f own_there None t.signals (is_signal_of (key_of v s f)) (λ r is. is) (all_of_signals own_there))

  pub end_alone : (frame : Frame) → get x.frames (s, f) ≡ Some frame → (h.stored v).overlay ≡ false → HoldsRows (without_frame (key_of v s f) t) count (applied b (Rows (in_rows s v (OfFrame f Drop))))
  end_alone frame there alone = ended frame there t.dropped (as_dropped t count b h v s f) (ap (λ over. not over || list_any (is_dropped (key_of v s f)) t.dropped) alone)

  pub end_over : (frame : Frame) → get x.frames (s, f) ≡ Some frame
      → HoldsRows (with_dropped (key_of v s f) (without_frame (key_of v s f) t)) count (applied b (Rows (in_rows s v (OfFrame f Drop))))
  end_over frame there =
      ended frame there (with_dropped (key_of v s f) t).dropped (drops_elsewhere v s f t b x is.there h.dropped) (ap (λ is. not (h.stored v).overlay || is) (now_dropped v s f t.dropped) ∙ either (not (h.stored v).overlay))
    where
      either : (o : Bool) → (o || true) ≡ true
      either true = refl
      either false = refl

  module _ (frame : Frame) (there : get x.frames (s, f) ≡ Some frame) (is_its_own : IsTrue (is_own (key_of v s f) t)) where
    own : own_there ≡ Some frame
    own = own_as_shown v s f t count b h x is.there frame there is_its_own

    -- ---- a placement is added, or ended

    pub put_placement : (q : Placement) → contains frame.placements q ≡ false → q.cycles.count ≡ count → HoldsRows (with_placement (placement_row (key_of v s f) q) t) count (applied b (Rows (in_rows s v (OfFrame f (Place q)))))
    unfolding frame_after
    put_placement q new same =
        let next : Frame = record frame { placements = insert frame.placements q tt } in
        edited (Place q) (Some frame) (Some frame) next there own refl (fine_placed count frame (fine_at frame there) q same) _ _ _
        (turns_not one_row (is_frame (key_of v s f)) v s f (Some frame) (Some next) t.frames refl)
        (turns_more placement_rows (is_placement_of (key_of v s f)) v s f (Some frame) (Some next) t.placements _ (place_section v s f frame q new))
        (turns_not signal_rows (is_signal_of (key_of v s f)) v s f (Some frame) (Some next) t.signals refl)

    pub end_placement : (q : Placement) → IsTrue (contains frame.placements q) → HoldsRows (without_placement (placement_row (key_of v s f) q) t) count (applied b (Rows (in_rows s v (OfFrame f (Unplace q)))))
    unfolding frame_after
    end_placement q there_is =
        let next : Frame = record frame { placements = remove frame.placements q } in
        edited (Unplace q) (Some frame) (Some frame) next there own refl (fine_unplaced count frame (fine_at frame there) q) _ _ _
        (turns_not one_row (is_frame (key_of v s f)) v s f (Some frame) (Some next) t.frames refl)
        (turns_fewer placement_rows (is_placement_of (key_of v s f)) v s f (Some frame) (Some next) t.placements (is_placement (placement_row (key_of v s f) q))
        (λ r is. of_frame v s f (placement_row (key_of v s f) q) r refl refl refl is) (unplace_section v s f frame q count ((fine_at frame there).counted q there_is) (each_counted count frame (fine_at frame there))))
        (turns_not signal_rows (is_signal_of (key_of v s f)) v s f (Some frame) (Some next) t.signals refl)

    -- ---- a signal is added, or dropped

    pub put_signal : (signal : SignalData) → HoldsRows (statements.with_signal (signal_row (key_of v s f) signal) t) count (applied b (Rows (in_rows s v (OfFrame f (AddSignal signal)))))
    unfolding frame_after
    put_signal signal =
        let next : Frame = record frame { signals = with_signal signal frame.signals } in
        edited (AddSignal signal) (Some frame) (Some frame) next there own refl (fine_with count frame (fine_at frame there) signal) _ _ _
        (turns_not one_row (is_frame (key_of v s f)) v s f (Some frame) (Some next) t.frames refl)
        (turns_not placement_rows (is_placement_of (key_of v s f)) v s f (Some frame) (Some next) t.placements refl)
        (turns_more signal_rows (is_signal_of (key_of v s f)) v s f (Some frame) (Some next) t.signals _ (add_section v s f frame signal))

    pub end_signal : (name : Name) → HoldsRows (statements.without_signal (key_of v s f) name t) count (applied b (Rows (in_rows s v (OfFrame f (DropSignal name)))))
    unfolding frame_after
    end_signal name =
        let next : Frame = record frame { signals = without_signal name frame.signals } in
        edited (DropSignal name) (Some frame) (Some frame) next there own refl (fine_without count frame (fine_at frame there) name) _ _ _
        (turns_not one_row (is_frame (key_of v s f)) v s f (Some frame) (Some next) t.frames refl)
        (turns_not placement_rows (is_placement_of (key_of v s f)) v s f (Some frame) (Some next) t.placements refl)
        (turns_fewer signal_rows (is_signal_of (key_of v s f)) v s f (Some frame) (Some next) t.signals (is_signal (key_of v s f) name) (of_signal v s f frame name) (drop_section v s f frame name))

-- ---- what was changed stands for the book after the edit

pub carried : (change : Tables → Tables) (old new : State) (c : Cluster) (next : Book) → Changes change old new
    → HasHeads (change (tables_of old)).register (change (tables_of old)).cluster (change (tables_of old)).cluster2 c → HoldsRows (change (tables_of old)) c.params.cycles next → Stands new c next
carried change old new c next h heads rows = record { has = h.has; for = subst (λ t. StandsFor t c next) (sym h.now) (record { heads = heads; rows = rows }) }

-- a frame is dropped by two statements, or by one where the variant is not stored over its parent
pub ended_over : (v s f : Name) (old mid new : State) (c : Cluster) (b : Book) (x : Variant) (frame : Frame) → Stands old c b → IsOpen b v x → get x.frames (s, f) ≡ Some frame
    → Changes (without_frame (key_of v s f)) old mid → Changes (with_dropped (key_of v s f)) mid new → Stands new c (applied b (Rows (in_rows s v (OfFrame f Drop))))
ended_over v s f old mid new c b x frame stands is there h k = record {
  has = k.has;
  for = subst (λ t. StandsFor t c (applied b (Rows (in_rows s v (OfFrame f Drop))))) (sym (k.now ∙ ap (with_dropped (key_of v s f)) h.now)) (record { heads = stands.for.heads; rows = end_over (tables_of old) c.params.cycles b stands.for.rows v s f x is frame there });
}

pub ended_alone : (v s f : Name) (old new : State) (c : Cluster) (b : Book) (x : Variant) (frame : Frame) → Stands old c b → IsOpen b v x → get x.frames (s, f) ≡ Some frame → IsStoredSo v false (tables_of old)
    → Changes (without_frame (key_of v s f)) old new → Stands new c (applied b (Rows (in_rows s v (OfFrame f Drop))))
ended_alone v s f old new c b x frame stands is there so h = record {
  has = h.has;
  for = subst (λ t. StandsFor t c (applied b (Rows (in_rows s v (OfFrame f Drop))))) (sym h.now)
      (record { heads = stands.for.heads; rows = end_alone (tables_of old) c.params.cycles b stands.for.rows v s f x is frame there (stored_so (tables_of old) c.params.cycles b stands.for.rows v false so) });
}

-- the frame that a placement's edit finds
pub place_fits : (there : Option Frame) (q : Placement) → FitsAt there (Place q) → (frame : Frame) × (there ≡ Some frame) × (contains frame.placements q ≡ false)
place_fits None q h = absurd (true≢false (sym h))
place_fits (Some frame) q h = (frame, refl, h)

-- and the one that has a placement which ends
pub unplace_fits : (there : Option Frame) (q : Placement) → FitsAt there (Unplace q) → (frame : Frame) × (there ≡ Some frame) × IsTrue (contains frame.placements q)
unplace_fits None q h = absurd (true≢false (sym h))
unplace_fits (Some frame) q h = (frame, refl, h)

-- ---- each change of a frame, by its one statement

module _ (v s f : Name) (old new : State) (c : Cluster) (b : Book) (x : Variant) (stands : Stands old c b) (is : IsOpen b v x) where
  abbrev frame_then : FrameChange → Type 0
  frame_then what = Stands new c (applied b (Rows (in_rows s v (OfFrame f what))))

  pub added : (node : Name) → is_some (get x.frames (s, f)) ≡ false → Changes (with_frame (record { variant = v; supplier = s; name = f; node = node })) old new → frame_then (Add node)
  added node free h = carried _ old new c _ h stands.for.heads (new_frame (tables_of old) c.params.cycles b stands.for.rows v s f x is node free)

  module _ (own : IsTrue (is_own (key_of v s f) (tables_of old))) where
    pub placed : (q : Placement) → FitsAt (get x.frames (s, f)) (Place q) → q.cycles.count ≡ c.params.cycles → Changes (with_placement (placement_row (key_of v s f) q)) old new → frame_then (Place q)
    placed q fits same h =
        let there = place_fits (get x.frames (s, f)) q fits in
        carried _ old new c _ h stands.for.heads (put_placement (tables_of old) c.params.cycles b stands.for.rows v s f x is there.0 there.1 own q there.2 same)

    pub unplaced : (q : Placement) → FitsAt (get x.frames (s, f)) (Unplace q) → Changes (without_placement (placement_row (key_of v s f) q)) old new → frame_then (Unplace q)
    unplaced q fits h =
        let there = unplace_fits (get x.frames (s, f)) q fits in
        carried _ old new c _ h stands.for.heads (end_placement (tables_of old) c.params.cycles b stands.for.rows v s f x is there.0 there.1 own q there.2)

    pub signal_added : (frame : Frame) → get x.frames (s, f) ≡ Some frame → (signal : SignalData) → Changes (statements.with_signal (signal_row (key_of v s f) signal)) old new → frame_then (AddSignal signal)
    signal_added frame there signal h =
        carried _ old new c _ h stands.for.heads (put_signal (tables_of old) c.params.cycles b stands.for.rows v s f x is frame there own signal)

    pub signal_dropped : (frame : Frame) → get x.frames (s, f) ≡ Some frame → (name : Name) → Changes (statements.without_signal (key_of v s f) name) old new → frame_then (DropSignal name)
    signal_dropped frame there name h =
        carried _ old new c _ h stands.for.heads (end_signal (tables_of old) c.params.cycles b stands.for.rows v s f x is frame there own name)
