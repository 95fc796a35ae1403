-- What the tables stand for after a frame that is only a parent's is copied to the variant.
use Rattle.std.proofs.Common.{◌≡◌, ℕ, ◌≢◌, Bool, true, false, ◌||◌, cond, None, Some, List, [], ◌∷◌, map, filter, refl, sym, ap, ◌∙◌, subst, IsPermutation, IsTrue, inl, inr, true≢false}
use Rattle.std.specs.List.{list_any}
use Rattle.std.specs.Ordering.{eq_by_cmp}
use Rattle.std.proofs.lemmas.Bool.{and_parts, and_from, false_from_ne_true}
use Rattle.std.proofs.lemmas.List.Folds.{list_any-append}
use Rattle.std.proofs.lemmas.List.Sorted.{IsPermutation-trans, IsPermutation-map, list_any-IsPermutation}
use Rattle.sqlite.specs.Effect.{Database}
use Rattle.sqlite.specs.State.{State}
use Rattle.sqlite_keyed.proofs.ListLemmas.{map-map, IsPermutation-filter}
use Rattle.fr_base.specs.Tables.{Becomes, Table, get, insert, settle}
use Rattle.fr_base.specs.Keys.{names, owned}
use Rattle.fr_base.specs.Cluster.{Cluster}
use Rattle.fr_base.specs.Book.{Frame, Variant, Book}
use Rattle.fr_base.specs.Queries.{placements_in}
use Rattle.fr_base.specs.declared.name.Name.{Name}
use Rattle.fr_base.specs.Step.{with_variant}
use Rattle.fr_base.proofs.SoundTables.{get-put, insert-cases, same_key}
use Rattle.fr_base.proofs.TableLaws.{equal, get-insert, same_table}
use Rattle.fr_world.specs.Fits.{IsOpen}
use Rattle.fr_store.specs.Owning.{is_own, with_frame_rows, CopiesFrame, IsOwner}
use Rattle.fr_tables.specs.Changes.{tables_of}
use Rattle.fr_store.specs.Reading.{Stands}
use Rattle.fr_tables.specs.Rows.{FrameRow, PlacementRow, SignalRow, key_of}
use Rattle.fr_tables.specs.Statements.{is_frame, is_placement_of, is_signal_of, frame_for, placement_for, signal_for, placement_row, signal_row, frame_copies, placement_copies, signal_copies}
use Rattle.fr_store.specs.StandsFor.{StandsFor, HoldsRows, Entry, IsFine, of_frames, placement_rows, signal_rows, own_or, is_hidden, of_parent, seen}
use Rattle.fr_tables.specs.Tables.{Tables, tables_in}
use Rattle.fr_store.proofs.AgainLemmas.{still_stands}
use Rattle.fr_store.proofs.ApartLemmas.{get-settle, get-settle_other, remove-settle}
use Rattle.fr_store.proofs.FrameChanges.{one_row, Shows, as_dropped, frame_changed}
use Rattle.fr_store.proofs.FramePartLemmas.{is_it, of_one, placements_test}
use Rattle.fr_store.proofs.FrameSections.{section}
use Rattle.fr_store.proofs.FrameTurns.{turns_new}
use Rattle.fr_store.proofs.OwningLemmas.{own_is, own_as_shown}
use Rattle.fr_store.proofs.PlacementSections.{none_there, own_text}
use Rattle.fr_store.proofs.SignalPartLemmas.{signals_test}

same_variants : (variants : Table names Variant) (v : Name) (x : Variant) → get variants v ≡ Some x → insert variants v x ≡ variants
same_variants variants v x there = same_table (insert variants v x) variants (λ q. get-insert variants v x q ∙ by_test q (eq_by_cmp names.compare q v) refl)
  where
    by_test : (q : Name) (tie : Bool) → eq_by_cmp names.compare q v ≡ tie → cond tie (Some x) (get variants q) ≡ get variants q
    by_test q true tie = sym (ap (get variants) (names.exact q v (equal _ tie)) ∙ there)
    by_test q false apart = refl

module _ (t : Tables) (count : ℕ) (b : Book) (stands : HoldsRows t count b) (s f : Name) (frame : Frame) where
  abbrev entry : Entry
  entry = ((s, f), frame)

  module _ (v : Name) (x : Variant) (is : IsOpen b v x) (not_own : is_own (key_of v s f) t ≡ false) where
    own_none : get (stands.stored v).own (s, f) ≡ None
    own_none = none_there _ (sym (own_is v s f t count b stands x is.there) ∙ not_own)

    -- with the frame among its own the variant shows it, and else the same
    abbrev with_own : Table owned Frame
    with_own = settle (stands.stored v).own (s, f) (Becomes frame)

    shows_also : (frames : Table owned Frame) → get frames (s, f) ≡ Some frame → ((k : Name × Name) → eq_by_cmp owned.compare (s, f) k ≡ false → get frames k ≡ get x.frames k) → Shows t count b stands v s f x is with_own frames t.dropped
    unfolding seen
    shows_also frames shown others k = by_test (eq_by_cmp owned.compare (s, f) k) refl
      where
        by_test : (tie : Bool) → eq_by_cmp owned.compare (s, f) k ≡ tie
            → get frames k ≡ own_or (get with_own k) (is_hidden t.dropped v (stands.stored v) k) (of_parent b.variants x.parent k)
        by_test true tie =
            subst (λ k. get frames k ≡ own_or (get with_own k) (is_hidden t.dropped v (stands.stored v) k) (of_parent b.variants x.parent k)) (owned.exact (s, f) k (equal _ tie))
            (shown ∙ ap (λ o. own_or o (is_hidden t.dropped v (stands.stored v) (s, f)) (of_parent b.variants x.parent (s, f))) (sym (get-settle owned (stands.stored v).own (s, f) (Becomes frame))))
        by_test false apart =
            others k apart ∙ (stands.each v x is.there).frames k
            ∙ ap (λ o. own_or o (is_hidden t.dropped v (stands.stored v) k) (of_parent b.variants x.parent k)) (sym (get-settle_other owned (stands.stored v).own (s, f) (Becomes frame) k apart))

    -- ---- the copies of the owner's rows

    module _ (w : Name) (y : Variant) (there : get b.variants w ≡ Some y) (own : get (stands.stored w).own (s, f) ≡ Some frame) where
      copies_are : {X : Type 0} (rows : Name → Entry → List X) (passes : X → Bool) → ((u : Name) (e : Entry) → filter passes (rows u e) ≡ cond (is_it w s f u e.0) (rows u e) []) → (into : X → X)
          → map into (rows w entry) ≡ rows v entry → (all copies : List X) → IsPermutation (of_frames rows stands.stored b.variants) all → IsPermutation (map into (filter passes all)) copies
          → IsPermutation (section rows v s f (get with_own (s, f))) copies
      copies_are rows passes test into turns all copies same copied =
          let here : IsPermutation (rows w entry) (filter passes all) =
          subst (λ xs. IsPermutation xs (filter passes all)) (of_one w s f rows passes test stands.stored b.variants y frame there own) (IsPermutation-filter passes _ _ same) in
          let turned : IsPermutation (rows v entry) copies =
          IsPermutation-trans _ _ _ (subst (λ xs. IsPermutation xs (map into (filter passes all))) turns (IsPermutation-map into _ _ here)) copied in
          subst (λ o. IsPermutation (section rows v s f o) copies) (sym (get-settle owned (stands.stored v).own (s, f) (Becomes frame))) turned

      had_none : {X : Type 0} (rows : Name → Entry → List X) → section rows v s f (get (stands.stored v).own (s, f)) ≡ []
      had_none rows = ap (section rows v s f) own_none

      -- with the copies the variant has these frames
      pub copies_stand : (shown : Table owned Frame) → Shows t count b stands v s f x is with_own shown t.dropped → ((k : Name × Name) (g : Frame) → get shown k ≡ Some g → IsFine count g)
          → (fs : List FrameRow) (ps : List PlacementRow) (ss : List SignalRow) → IsPermutation (frame_copies w (key_of v s f) t) fs → IsPermutation (placement_copies w (key_of v s f) t) ps
          → IsPermutation (signal_copies w (key_of v s f) t) ss → HoldsRows (with_frame_rows fs ps ss t) count (with_variant b v (record x { frames = shown }))
      copies_stand shown shows fine fs ps ss frames placements signals =
          frame_changed t count b stands v s f x is with_own shown t.dropped (remove-settle owned (stands.stored v).own (s, f) (Becomes frame)) (as_dropped t count b stands v s f) shows fine _ _ _
          (turns_new one_row (is_frame (key_of v s f)) v s f _ _ t.frames fs (had_none one_row)
          (copies_are one_row (is_frame (key_of w s f)) (λ u e. refl) (frame_for v) refl t.frames fs stands.frames frames))
          (turns_new placement_rows (is_placement_of (key_of v s f)) v s f _ _ t.placements ps (had_none placement_rows)
          (copies_are placement_rows (is_placement_of (key_of w s f)) (placements_test w s f) (placement_for v) (map-map (placement_for v) (placement_row (key_of w s f)) (placements_in frame)) t.placements ps stands.placements placements))
          (turns_new signal_rows (is_signal_of (key_of v s f)) v s f _ _ t.signals ss (had_none signal_rows)
          (copies_are signal_rows (is_signal_of (key_of w s f)) (signals_test w s f) (signal_for v) (map-map (signal_for v) (signal_row (key_of w s f)) frame.signals) t.signals ss stands.signals signals))

      -- where the variant showed the frame, it has the same
      pub copied_stands : get x.frames (s, f) ≡ Some frame → (fs : List FrameRow) (ps : List PlacementRow) (ss : List SignalRow) → IsPermutation (frame_copies w (key_of v s f) t) fs → IsPermutation (placement_copies w (key_of v s f) t) ps
          → IsPermutation (signal_copies w (key_of v s f) t) ss → HoldsRows (with_frame_rows fs ps ss t) count b
      copied_stands shown fs ps ss frames placements signals =
          subst (HoldsRows (with_frame_rows fs ps ss t) count) (ap (λ variants. record b { variants = variants }) (same_variants b.variants v x is.there))
          (copies_stand x.frames (shows_also x.frames shown (λ k apart. refl)) (stands.each v x is.there).fine fs ps ss frames placements signals)

      -- where it did not, it has one more
      pub added_stands : IsFine count frame → (fs : List FrameRow) (ps : List PlacementRow) (ss : List SignalRow) → IsPermutation (frame_copies w (key_of v s f) t) fs → IsPermutation (placement_copies w (key_of v s f) t) ps
          → IsPermutation (signal_copies w (key_of v s f) t) ss → HoldsRows (with_frame_rows fs ps ss t) count (with_variant b v (record x { frames = insert x.frames (s, f) frame }))
      added_stands its_fine =
          copies_stand (insert x.frames (s, f) frame)
          (shows_also (insert x.frames (s, f) frame) (get-put x.frames (s, f) frame) (λ k apart. get-insert x.frames (s, f) frame k ∙ ap (λ t. cond t (Some frame) (get x.frames k)) (turned_apart k apart)))
          (λ k g there. elim (insert-cases x.frames (s, f) frame k g there) [
            | inl it ↦ subst (IsFine count) it.1 its_fine
            | inr other ↦ (stands.each v x is.there).fine k g other.1
          ])
        where
          turned_apart : (k : Name × Name) → eq_by_cmp owned.compare (s, f) k ≡ false → eq_by_cmp owned.compare k (s, f) ≡ false
          turned_apart k apart = false_from_ne_true _ (λ tie. true≢false (sym (ap (λ j. eq_by_cmp owned.compare (s, f) j) (owned.exact k (s, f) (equal _ tie)) ∙ same_key owned (s, f)) ∙ apart))

-- ---- the frame is the variant's own then

module _ (w v s f : Name) where
  -- it has a row among the copies, where the owner has one
  any_copied : (rows : List FrameRow) → list_any (is_frame (key_of v s f)) (map (frame_for v) (filter (is_frame (key_of w s f)) rows)) ≡ list_any (is_frame (key_of w s f)) rows
  any_copied [] = refl
  any_copied (r ∷ rows) = by_test (is_frame (key_of w s f) r) refl (any_copied rows)
    where
      by_test : (b : Bool) → is_frame (key_of w s f) r ≡ b → list_any (is_frame (key_of v s f)) (map (frame_for v) (filter (is_frame (key_of w s f)) rows)) ≡ list_any (is_frame (key_of w s f)) rows
          → list_any (is_frame (key_of v s f)) (map (frame_for v) (cond b (r ∷ filter (is_frame (key_of w s f)) rows) (filter (is_frame (key_of w s f)) rows))) ≡ b || list_any (is_frame (key_of w s f)) rows
      by_test true is more = ap (λ here. here || list_any (is_frame (key_of v s f)) (map (frame_for v) (filter (is_frame (key_of w s f)) rows))) (and_from _ _ (own_text v) (and_parts _ _ is).1)
      by_test false is more = more

  or_true : (b : Bool) → (b || true) ≡ true
  or_true true = refl
  or_true false = refl

  -- where the owner is another, its rows are copied
  pub copied_own : (old mid new : State) → IsOwner (key_of v s f) w old mid → w ≢ v → CopiesFrame w (key_of v s f) mid new → (c : Cluster) (b : Book) → Stands old c b → (x : Variant) (frame : Frame) → IsOpen b v x
      → get x.frames (s, f) ≡ Some frame → Stands new c b × IsTrue (is_own (key_of v s f) (tables_of new))
  copied_own old mid new found other copies c b stands x frame is shown =
      let owner = found.of c b stands x frame is.there shown in
      let same : tables_of mid ≡ tables_of old = ap (λ (d : Database). tables_in d.trees) found.now in
      let not_own : is_own (key_of v s f) (tables_of old) ≡ false = false_from_ne_true _ (λ own. other (owner.nearest own)) in
      let its_own : get (stands.for.rows.stored w).own (s, f) ≡ Some frame = own_as_shown w s f (tables_of old) c.params.cycles b stands.for.rows owner.variant owner.there frame owner.shown owner.own in
      let rows : HoldsRows (with_frame_rows copies.frames copies.placements copies.signals (tables_of old)) c.params.cycles b =
      copied_stands (tables_of old) c.params.cycles b stands.for.rows s f frame v x is not_own w owner.variant owner.there its_own shown copies.frames copies.placements copies.signals
      (subst (λ t. IsPermutation (frame_copies w (key_of v s f) t) copies.frames) same copies.same_frames)
      (subst (λ t. IsPermutation (placement_copies w (key_of v s f) t) copies.placements) same copies.same_placements)
      (subst (λ t. IsPermutation (signal_copies w (key_of v s f) t) copies.signals) same copies.same_signals) in
      let now : tables_of new ≡ with_frame_rows copies.frames copies.placements copies.signals (tables_of old) =
      copies.added.now ∙ ap (with_frame_rows copies.frames copies.placements copies.signals) same in
      let among : list_any (is_frame (key_of v s f)) copies.frames ≡ true =
      sym (list_any-IsPermutation (is_frame (key_of v s f)) _ _ (subst (λ t. IsPermutation (frame_copies w (key_of v s f) t) copies.frames) same copies.same_frames))
      ∙ any_copied (tables_of old).frames ∙ owner.own in (
        record { has = copies.added.has; for = subst (λ t. StandsFor t c b) (sym now) (record { heads = stands.for.heads; rows = rows }) },
        ap (is_own (key_of v s f)) now ∙ list_any-append (is_frame (key_of v s f)) (tables_of old).frames copies.frames ∙ ap (λ is. list_any (is_frame (key_of v s f)) (tables_of old).frames || is) among ∙ or_true _,
      )

  -- where it is the variant itself, nothing is to be done
  pub already_own : (old new : State) → IsOwner (key_of v s f) w old new → w ≡ v → (c : Cluster) (b : Book) → Stands old c b → (x : Variant) (frame : Frame) → IsOpen b v x
      → get x.frames (s, f) ≡ Some frame → Stands new c b × IsTrue (is_own (key_of v s f) (tables_of new))
  already_own old new found itself c b stands x frame is shown =
      let owner = found.of c b stands x frame is.there shown in
      let same : tables_of new ≡ tables_of old = ap (λ (d : Database). tables_in d.trees) found.now in
      (still_stands old new c b found.now stands, ap (is_own (key_of v s f)) same ∙ subst (λ u. is_own (key_of u s f) (tables_of old) ≡ true) itself owner.own)
