-- The edits between two pages lead from the one to the other. While what is gone goes, each page is a part of the one before;
-- while what is new comes, a part of the one after.
use Rattle.std.proofs.Common.{◌≡◌, ◌≢◌, ◌≤◌, ◌++◌, IsTrue, cond, List, [], ◌∷◌, map, reverse, Option, Some, None, IfOk, refl, sym, ap, subst, ◌∙◌, inl, inr}
use Rattle.std.specs.Prelude.{T, ⊤}
use Rattle.std.specs.Ordering.{eq_by_cmp}
use Rattle.std.specs.FinMap.Entries.{find, is_sorted, below_all}
use Rattle.std.specs.List.{AllByRecursion}
use Rattle.std.proofs.lemmas.Bool.{cases_Bool}
use Rattle.std.proofs.lemmas.List.{reverse-append}
use Rattle.std.proofs.lemmas.List.Elements.{recursion_from_All}
use Rattle.fr_base.specs.TableRows.{first, second}
use Rattle.fr_base.specs.Tables.{Table, get, contains, left_by, settle}
use Rattle.fr_base.specs.Keys.{owned}
use Rattle.fr_base.specs.Book.{Frame}
use Rattle.fr_base.specs.Changes.{in_rows}
use Rattle.fr_base.specs.Step.{OwnRows, frame_after, frames_after, grants_after}
use Rattle.fr_base.specs.declared.name.Name.{Name}
use Rattle.fr_base.specs.declared.params.Params.{Params}
use Rattle.fr_base.specs.declared.placement.Placement.{Placement}
use Rattle.fr_base.specs.declared.request.Change.TheVariants as change
use Rattle.fr_base.specs.declared.request.FrameChange.{FrameChange}
use Rattle.fr_base.specs.declared.request.FrameChange.TheVariants.{Add, Drop, Place, Unplace, AddSignal, DropSignal}
use Rattle.fr_base.specs.Signals.{SignalData}
use Rattle.fr_base.proofs.DifferenceRows.{rows-found}
use Rattle.fr_base.proofs.SettledRows.{settle-here, settle-other}
use Rattle.fr_base.proofs.SoundTables.{other_key}
use Rattle.fr_base.proofs.TableLaws.{equal, same_table}
use Rattle.fr_world.specs.Decisions.{IsChecked}
use Rattle.fr_world.specs.Edits.{FitsFrame, FitsRows, Leads, edited, rows_after}
use Rattle.fr_world.specs.PageEdits.{coming, edits_between, ending, frame_edits, gains, going, losses, of_node}
use Rattle.fr_world.specs.Pages.{IsPage}
use Rattle.fr_world.specs.declared.edit.Edit.{Edit}
use Rattle.fr_world.specs.declared.edit.Edit.TheVariants.{Rows}
use Rattle.fr_world.proofs.FramesBeside.{AllEnd, CanEnd, IsKnown, IsOrdered, added-again, added-fits, back, back-gains, ending-admitted, gains-end, meet, meet-turned, put-again}
use Rattle.fr_world.proofs.FreeingLaws.{below_other, drop_frame-admitted}
use Rattle.fr_world.proofs.LeadsLaws.{rows-leave}

-- edits, and then others
leads-append : (v : Name) (ones others : List Edit) (p q r : OwnRows) → Leads v p ones q → Leads v q others r → Leads v p (ones ++ others) r
leads-append v [] others p q r one then = subst (λ (m : OwnRows). Leads v m others r) one then
leads-append v (edit ∷ ones) others p q r one then = (one.0, one.1, leads-append v ones others (edited p edit) q r one.2 then)

-- a change that ends something has nothing to be checked
ending-checked : (p : Params) (f : Name) (what : FrameChange) → IsChecked p (change.Frame f (ending what))
ending-checked p f (Add n) = tt
ending-checked p f Drop = tt
ending-checked p f (Place q) = tt
ending-checked p f (Unplace q) = tt
ending-checked p f (AddSignal s) = tt
ending-checked p f (DropSignal name) = tt

-- the supplier has the nodes of rows, which add no frame
rows-known : (nodes : Table owned ⊤) (s : Name) (qs : List Placement) (ss : List SignalData) → AllByRecursion (IsKnown nodes s) (map Place qs ++ map AddSignal ss)
rows-known nodes s [] [] = tt
rows-known nodes s [] (x ∷ ss) = (tt, rows-known nodes s [] ss)
rows-known nodes s (q ∷ qs) ss = (tt, rows-known nodes s qs ss)

-- no key stands twice
abbrev Row : Type 0
Row = (Name × Name) × Frame

below-apart : (k : Name × Name) (rows : List Row) → T (below_all owned.compare k rows) → AllByRecursion (λ row. row.0 ≢ k) rows
below-apart k [] below = tt
below-apart k (row ∷ rows) below =
    (λ same. other_key owned k row.0 (below_other (owned.compare k row.0) (first _ _ below)) (sym same), below-apart k rows (second _ _ below))

module _ (v : Name) (base : OwnRows) (words : base.params.payload_words ≤ 127) where
  abbrev Frames : Type 0
  Frames = Table owned Frame

  abbrev s : Name
  s = base.supplier

  -- the supplier's rows with these frames
  abbrev pub at : Frames → OwnRows
  at t = record base { frames = t }

  abbrev edit_of : Name → FrameChange → Edit
  edit_of f what = Rows (in_rows s v (change.Frame f what))

  abbrev after : Name → FrameChange → Frames → Frames
  after f what t = frames_after s (change.Frame f what) t

  -- the frames where what the changes added was ended, the last first
  abbrev undone : Name → List FrameChange → Frames → Frames
  undone f [] t = t
  undone f (what ∷ whats) t = after f (ending what) (undone f whats t)

  undone-here : (f : Name) (whats : List FrameChange) (t : Frames) → get (undone f whats t) (s, f) ≡ back whats (get t (s, f))
  unfolding frames_after
  undone-here f [] t = refl
  undone-here f (what ∷ whats) t = settle-here (undone f whats t) (s, f) _ ∙ ap (λ o. left_by (frame_after (ending what) o)) (undone-here f whats t)

  undone-other : (f : Name) (whats : List FrameChange) (t : Frames) (k : Name × Name) → (◌≡◌ {A = Name × Name} (s, f) k → ⊥) → get (undone f whats t) k ≡ get t k
  unfolding frames_after
  undone-other f [] t k other = refl
  undone-other f (what ∷ whats) t k other = settle-other (undone f whats t) (s, f) k _ other ∙ undone-other f whats t k other

  -- The row is the supplier's, and one of these frames.
  pub record IsMine (t : Frames) (row : Row) : Type 0 where
    pub key : ◌≡◌ {A = Name × Name} row.0 (s, row.0.1)
    pub found : get t row.0 ≡ Some row.1
    pub ordered : IsOrdered row.1

  -- the frames where what rows have beside others was ended, the last first
  abbrev strip : Frames → List Row → Frames → Frames
  strip others [] t = t
  strip others (row ∷ rows) t = undone row.0.1 (gains row.1 (of_node row.1.node (get others row.0))) (strip others rows t)

  strip-other : (others : Frames) (rows : List Row) (t : Frames) (k : Name × Name) → AllByRecursion (IsMine t) rows → AllByRecursion (λ row. row.0 ≢ k) rows → get (strip others rows t) k ≡ get t k
  strip-other others [] t k mine apart = refl
  strip-other others (row ∷ rows) t k mine apart =
      undone-other row.0.1 (gains row.1 (of_node row.1.node (get others row.0))) (strip others rows t) k (λ same. apart.0 (mine.0.key ∙ same))
      ∙ strip-other others rows t k mine.1 apart.1

  -- the first row's frame stands there still, where the rows after it were stripped
  strip-found : (others : Frames) (row : Row) (rows : List Row) (t : Frames) → T (is_sorted owned.compare (row ∷ rows)) → AllByRecursion (IsMine t) (row ∷ rows) → get (strip others rows t) (s, row.0.1) ≡ Some row.1
  strip-found others row rows t sorted mine =
      ap (get (strip others rows t)) (sym mine.0.key) ∙ strip-other others rows t row.0 mine.1 (below-apart row.0 rows (first _ _ sorted)) ∙ mine.0.found

  -- what is left at a key of a frame that a row has, or of what stood there
  abbrev left_at : Frames → Name × Name → Option Frame → Option Frame → Option Frame
  left_at others k there None = there
  left_at others k there (Some frame) = meet frame (of_node frame.node (get others k))

  get-strip : (others : Frames) (rows : List Row) (t : Frames) (k : Name × Name) → T (is_sorted owned.compare rows) → AllByRecursion (IsMine t) rows → get (strip others rows t) k ≡ left_at others k (get t k) (find owned.compare k rows)
  get-strip others [] t k sorted mine = refl
  get-strip others (row ∷ rows) t k sorted mine =
      let other = of_node row.1.node (get others row.0) in
      let whats = gains row.1 other in
      elim (cases_Bool (eq_by_cmp owned.compare k row.0)) [
        | inl tie ↦
            let same : k ≡ row.0 = owned.exact k row.0 (equal _ tie) in
            ap (get (undone row.0.1 whats (strip others rows t))) (same ∙ mine.0.key)
            ∙ undone-here row.0.1 whats (strip others rows t)
            ∙ ap (back whats) (strip-found others row rows t sorted mine)
            ∙ back-gains row.1 mine.0.ordered other
            ∙ ap (λ q. meet row.1 (of_node row.1.node (get others q))) (sym same)
            ∙ sym (ap (λ b. left_at others k (get t k) (cond b (Some row.1) (find owned.compare k rows))) tie)
        | inr apart ↦
            undone-other row.0.1 whats (strip others rows t) k (λ same. other_key owned k row.0 apart (sym (mine.0.key ∙ same)))
            ∙ get-strip others rows t k (second _ _ sorted) mine.1
            ∙ sym (ap (λ b. left_at others k (get t k) (cond b (Some row.1) (find owned.compare k rows))) apart)
      ]

  -- The one edits lead from a page with these frames to one with fewer, and the others back, where this is known.
  pub record Joins (K : Type 0) (t u : Frames) (falling rising : List Edit) : Type 0 where
    pub page : IsPage (at u)
    pub falls : Leads v (at t) falling (at u)
    pub rises : K → Leads v (at u) rising (at t)

  module _ (K : Type 0) where
    joins-none : (t : Frames) → IsPage (at t) → Joins K t t [] []
    joins-none t fine = record { page = fine; falls = refl; rises = λ _. refl }

    joins-then : (t u w : Frames) (f g r q : List Edit) → Joins K t u f r → Joins K u w g q → Joins K t w (f ++ g) (q ++ r)
    joins-then t u w f g r q one then = record {
      page = then.page;
      falls = leads-append v f g (at t) (at u) (at w) one.falls then.falls;
      rises = λ k. leads-append v q r (at w) (at u) (at t) (then.rises k) (one.rises k);
    }

    -- one change
    joins-one : (t : Frames) → IsPage (at t) → (f : Name) (what : FrameChange) → CanEnd what (get t (s, f)) → (K → IsKnown base.nodes s what) →
        Joins K t (after f (ending what) t) (edit_of f (ending what) ∷ []) (edit_of f what ∷ [])
    unfolding edited grants_after frames_after settle
    joins-one t fine f what can known =
        let there = get t (s, f) in
        let leaves = subst (λ r. IfOk r (λ _. FitsRows (at t) (change.Frame f (ending what)) × IsPage (rows_after (change.Frame f (ending what)) (at t)))) (ending-admitted (at t) f what there refl can)
        (rows-leave (at t) fine words (change.Frame f (ending what)) (ending-checked base.params f what)) in
        let left : Frames = after f (ending what) t in
        let again = added-again what there can in
        let here : get left (s, f) ≡ left_by (frame_after (ending what) there) = settle-here t (s, f) (frame_after (ending what) there) in
        let restored : after f what left ≡ t = ap (λ o. settle left (s, f) (frame_after what o)) here ∙ ap (settle left (s, f)) again.2 ∙ put-again t (s, f) (frame_after (ending what) there) again.0 again.1 in
        record {
          page = leaves.1;
          falls = (record { own = (refl, refl); leaves = leaves.1 }, leaves.0, refl);
          rises = λ k. (
            record { own = (refl, refl); leaves = subst (λ m. IsPage (at m)) (sym restored) fine },
            subst (λ o. FitsFrame base.nodes s o what) (sym here) (added-fits base.nodes s what there can (known k)),
            ap at (sym restored),
          );
        }

    -- the changes of a frame
    joins-frame : (f : Name) (whats : List FrameChange) (t : Frames) → IsPage (at t) → AllEnd whats (get t (s, f)) → (K → AllByRecursion (IsKnown base.nodes s) whats) →
        Joins K t (undone f whats t) (reverse (frame_edits s v f (map ending whats))) (frame_edits s v f whats)
    joins-frame f [] t fine ends known = joins-none t fine
    joins-frame f (what ∷ whats) t fine ends known =
        let rest = joins-frame f whats t fine ends.1 (λ k. (known k).1) in
        let one = joins-one (undone f whats t) rest.page f what (subst (CanEnd what) (sym (undone-here f whats t)) ends.0) (λ k. (known k).0) in
        subst (λ falling. Joins K t (undone f (what ∷ whats) t) falling (frame_edits s v f (what ∷ whats))) (sym (reverse-append (edit_of f (ending what) ∷ []) (frame_edits s v f (map ending whats))))
        (joins-then t (undone f whats t) (undone f (what ∷ whats) t) _ _ _ _ rest one)

    module _ (f : Name) (frame : Frame) (t : Frames) (fine : IsPage (at t)) (found : get t (s, f) ≡ Some frame) (ordered : IsOrdered frame) where
      -- a frame without another goes at once
      dropped : undone f (gains frame None) t ≡ after f Drop t
      unfolding frames_after frame_after
      dropped = same_table _ _ (λ k. elim (cases_Bool (eq_by_cmp owned.compare (s, f) k)) [
        | inl tie ↦
            let same : ◌≡◌ {A = Name × Name} (s, f) k = owned.exact (s, f) k (equal _ tie) in
            subst (λ k. get (undone f (gains frame None) t) k ≡ get (after f Drop t) k) same
            (undone-here f (gains frame None) t ∙ ap (back (gains frame None)) found ∙ back-gains frame ordered None ∙ sym (settle-here t (s, f) _))
        | inr apart ↦
            let other : ◌≡◌ {A = Name × Name} (s, f) k → ⊥ = other_key owned (s, f) k apart in
            undone-other f (gains frame None) t k other ∙ sym (settle-other t (s, f) k _ other)
      ])

      dropped-leads : Leads v (at t) (edit_of f Drop ∷ []) (at (after f Drop t))
      unfolding edited grants_after
      dropped-leads =
          let leaves = subst (λ r. IfOk r (λ _. FitsRows (at t) (change.Frame f Drop) × IsPage (rows_after (change.Frame f Drop) (at t)))) (drop_frame-admitted f (at t) frame found)
          (rows-leave (at t) fine words (change.Frame f Drop) tt) in
          (record { own = (refl, refl); leaves = leaves.1 }, leaves.0, refl)

      all-known : (other : Option Frame) → (other ≡ None → IsTrue (contains base.nodes (s, frame.node))) → AllByRecursion (IsKnown base.nodes s) (gains frame other)
      all-known None known = (known refl, rows-known base.nodes s _ _)
      all-known (Some other) known = rows-known base.nodes s _ _

      joins-gains : (other : Option Frame) → (K → other ≡ None → IsTrue (contains base.nodes (s, frame.node))) →
          Joins K t (undone f (gains frame other) t) (reverse (frame_edits s v f (map ending (gains frame other)))) (frame_edits s v f (gains frame other))
      joins-gains other known = joins-frame f (gains frame other) t fine (subst (AllEnd (gains frame other)) (sym found) (gains-end frame ordered other)) (λ k. all-known other (known k))

      -- what a frame has beside another
      joins-beside : (other : Option Frame) → (K → other ≡ None → IsTrue (contains base.nodes (s, frame.node))) →
          Joins K t (undone f (gains frame other) t) (reverse (frame_edits s v f (losses frame other))) (frame_edits s v f (gains frame other))
      joins-beside None known =
          let whole = joins-gains None known in
          record { page = whole.page; falls = subst (λ u. Leads v (at t) (edit_of f Drop ∷ []) (at u)) (sym dropped) dropped-leads; rises = whole.rises }
      joins-beside (Some other) known = joins-gains (Some other) known

    -- the rows of a page
    joins-rows : (others : Frames) (rows : List Row) (t : Frames) → IsPage (at t) → T (is_sorted owned.compare rows) → AllByRecursion (IsMine t) rows →
        (K → AllByRecursion (λ row. of_node row.1.node (get others row.0) ≡ None → IsTrue (contains base.nodes (s, row.1.node))) rows) →
        Joins K t (strip others rows t) (reverse (going s v others rows)) (coming s v others rows)
    joins-rows others [] t fine sorted mine known = joins-none t fine
    joins-rows others (row ∷ rows) t fine sorted mine known =
        let rest = joins-rows others rows t fine (second _ _ sorted) mine.1 (λ k. (known k).1) in
        let other = of_node row.1.node (get others row.0) in
        let one = joins-beside row.0.1 row.1 (strip others rows t) rest.page (strip-found others row rows t sorted mine) mine.0.ordered other (λ k. (known k).0) in
        subst (λ falling. Joins K t (strip others (row ∷ rows) t) falling (coming s v others (row ∷ rows))) (sym (reverse-append (frame_edits s v row.0.1 (losses row.1 other)) (going s v others rows)))
        (joins-then t (strip others rows t) (strip others (row ∷ rows) t) _ _ _ _ rest one)

  -- ---- two pages

  -- All frames are the supplier's.
  abbrev pub AreOwn : Frames → Type 0
  AreOwn t = (k : Name × Name) (frame : Frame) → get t k ≡ Some frame → k.0 ≡ s

  ordered-at : (t : Frames) → IsPage (at t) → (k : Name × Name) (frame : Frame) → get t k ≡ Some frame → IsOrdered frame
  ordered-at t fine k frame found = let laid = (fine.each k frame found).layout in record { rises = laid.rising; differ = laid.names }

  mine-each : (t : Frames) → IsPage (at t) → AreOwn t → (rows : List Row) → AllByRecursion (λ row. get t row.0 ≡ Some row.1) rows → AllByRecursion (IsMine t) rows
  mine-each t fine own [] found = tt
  mine-each t fine own (row ∷ rows) found =
      (record { key = λ i. (own row.0 row.1 found.0 i, row.0.1); found = found.0; ordered = ordered-at t fine row.0 row.1 found.0 }, mine-each t fine own rows found.1)

  -- each row is found
  pub found-each : (t : Frames) → AllByRecursion (λ row. get t row.0 ≡ Some row.1) t.rows
  unfolding get
  found-each t = recursion_from_All _ t.rows (rows-found owned t.rows t.sorted)

  module _ (t u : Frames) (fine_t : IsPage (at t)) (fine_u : IsPage (at u)) (own_t : AreOwn t) (own_u : AreOwn u) where
    left-alike : (k : Name × Name) (a b : Option Frame) → get t k ≡ a → get u k ≡ b → left_at u k a a ≡ left_at t k b b
    left-alike k None None at_t at_u = refl
    left-alike k (Some x) None at_t at_u = rw at_u refl
    left-alike k None (Some y) at_t at_u = rw at_t refl
    left-alike k (Some x) (Some y) at_t at_u = rw (at_t, at_u) (meet-turned x y (ordered-at t fine_t k x at_t) (ordered-at u fine_u k y at_u))

    -- the same is left of both
    same-left : strip u t.rows t ≡ strip t u.rows u
    unfolding get
    same-left = same_table _ _ (λ k.
        get-strip u t.rows t k t.sorted (mine-each t fine_t own_t t.rows (found-each t))
        ∙ left-alike k (get t k) (get u k) refl refl
        ∙ sym (get-strip t u.rows u k u.sorted (mine-each u fine_u own_u u.rows (found-each u))))

    -- the supplier has the nodes of the frames that are new, or that another node sends
    abbrev pub AreKnown : Type 0
    AreKnown = (k : Name × Name) (frame : Frame) → get u k ≡ Some frame → of_node frame.node (get t k) ≡ None → IsTrue (contains base.nodes (s, frame.node))

    known-each : AreKnown → (rows : List Row) → AllByRecursion (λ row. get u row.0 ≡ Some row.1) rows → AllByRecursion (λ row. of_node row.1.node (get t row.0) ≡ None → IsTrue (contains base.nodes (s, row.1.node))) rows
    known-each known [] found = tt
    known-each known (row ∷ rows) found = (known row.0 row.1 found.0, known-each known rows found.1)

    pub between-leads : AreKnown → Leads v (at t) (edits_between v (at t) (at u)) (at u)
    unfolding edits_between
    between-leads known =
        let falls = joins-rows ⊥ u t.rows t fine_t t.sorted (mine-each t fine_t own_t t.rows (found-each t)) (λ k. absurd k) in
        let rises = joins-rows ⊤ t u.rows u fine_u u.sorted (mine-each u fine_u own_u u.rows (found-each u)) (λ k. known-each known u.rows (found-each u)) in
        leads-append v (reverse (going s v u t.rows)) (coming s v t u.rows) (at t) (at (strip u t.rows t)) (at u) falls.falls
        (subst (λ m. Leads v (at m) (coming s v t u.rows) (at u)) (sym same-left) (rises.rises tt))
