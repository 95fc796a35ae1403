-- Where edits of frames lead a page, the edits between the two lead too. The frames are the supplier's there, and one that is new,
-- or that another node sends, has a node of the supplier.
use Rattle.std.proofs.Common.{◌≡◌, ◌≤◌, ◌++◌, ◌⊎◌, IsTrue, Bool, true, not, cond, All, List, [], ◌∷◌, map, filter, reverse, Option, Some, None, refl, sym, ap, subst, ◌∙◌, inl, inr}
use Rattle.std.specs.Ordering.{eq_by_cmp}
use Rattle.std.specs.FinMap.Entries.{find}
use Rattle.std.specs.List.{AllByRecursion}
use Rattle.std.proofs.lemmas.Bool.{cases_Bool}
use Rattle.std.proofs.lemmas.List.{reverse-append}
use Rattle.std.proofs.lemmas.List.Elements.{All-filter, All-weaker, recursion_from_All}
use Rattle.fr_base.specs.Tables.{Table, get, contains, left_by, settle}
use Rattle.fr_base.specs.Keys.{owned}
use Rattle.fr_base.specs.Names.{same_text}
use Rattle.fr_base.specs.Book.{Frame}
use Rattle.fr_base.specs.Queries.{placements_in}
use Rattle.fr_base.specs.Signals.{SignalData}
use Rattle.fr_base.specs.Sound.{FitsCluster}
use Rattle.fr_base.specs.Step.{OwnRows, frame_after, frames_after, grants_after}
use Rattle.fr_base.specs.declared.name.Name.{Name}
use Rattle.fr_base.specs.declared.params.Params.{Params}
use Rattle.fr_base.specs.declared.placement.Placement.{Placement}
use Rattle.fr_base.specs.declared.request.Change.{Change}
use Rattle.fr_base.specs.declared.request.Change.TheVariants as change
use Rattle.fr_base.specs.declared.request.FrameChange.{FrameChange}
use Rattle.fr_base.specs.declared.request.FrameChange.TheVariants.{Add, Drop, Place, Unplace, AddSignal, DropSignal}
use Rattle.fr_base.proofs.AloneCells.{same_text-itself}
use Rattle.fr_base.proofs.SettledRows.{settle-here, settle-other}
use Rattle.fr_base.proofs.SoundTables.{other_key, same_some}
use Rattle.fr_base.proofs.TableLaws.{equal, get-from_rows}
use Rattle.fr_world.specs.Edits.{FitsFrame, FitsPage, FitsRows, Leads, edited, rows_after}
use Rattle.fr_world.specs.Fits.{IsCounted}
use Rattle.fr_world.specs.Maps.{table_of}
use Rattle.fr_world.specs.PageEdits.{coming, edits_between, ending, frame_edits, gains, going, has_place, losses, of_node}
use Rattle.fr_world.specs.Pages.{FrameData, IsPage, PageData, frame_of, own_rows_of}
use Rattle.fr_world.specs.RowDecisions.{DraftData}
use Rattle.fr_world.specs.declared.edit.Edit.{Edit}
use Rattle.fr_world.specs.declared.edit.Edit.TheVariants.{NewVariant, NewFlat, SetReleased, NewSupplier, SetKey, NewNode, Rows, KeepImport}
use Rattle.fr_world.proofs.PagesBetween.{AreKnown, between-leads, found-each}
use Rattle.fr_world.proofs.RowsLead.{IsFrameChange, IsLed, IsOfFrame}

-- ---- the frames of a page are the supplier's

own-found : (s : Name) (es : List (Name × FrameData)) (k : Name × Name) (frame : Frame) → find {K = Name × Name} {X = Frame} owned.compare k (map (λ e. ((s, e.0), frame_of e.1)) es) ≡ Some frame → k.0 ≡ s
own-found s [] k frame found = cc
own-found s (e ∷ es) k frame found = elim (cases_Bool (eq_by_cmp owned.compare k (s, e.0))) [
  | inl tie ↦ ap (λ (q : Name × Name). q.0) (owned.exact k (s, e.0) (equal _ tie))
  | inr apart ↦ own-found s es k frame (sym (ap (λ b. cond b (Some (frame_of e.1)) (find {K = Name × Name} {X = Frame} owned.compare k (map (λ e. ((s, e.0), frame_of e.1)) es))) apart) ∙ found)
]

pub page-own : (rows : PageData) (k : Name × Name) (frame : Frame) → get (own_rows_of rows).frames k ≡ Some frame → k.0 ≡ rows.supplier
unfolding table_of
page-own rows k frame found = own-found rows.supplier rows.frames k frame (sym (get-from_rows owned _ k) ∙ found)

-- ---- edits of frames

module _ (v : Name) (base : OwnRows) (start : Table owned Frame) where
  abbrev Frames : Type 0
  Frames = Table owned Frame

  abbrev s : Name
  s = base.supplier

  abbrev at : Frames → OwnRows
  at t = record base { frames = t }

  -- the supplier has the node, or it sent the frame before
  abbrev HasNode : Name × Name → Frame → Type 0
  HasNode k frame = IsTrue (contains base.nodes (s, frame.node)) ⊎ ((old : Frame) × (get start k ≡ Some old) × (old.node ≡ frame.node))

  -- each frame is the supplier's, and has such a node
  abbrev AreLed : Frames → Type 0
  AreLed t = (k : Name × Name) (frame : Frame) → get t k ≡ Some frame → (k.0 ≡ s) × HasNode k frame

  -- the node of a frame that a change leaves
  node-left : (what : FrameChange) (there : Option Frame) (frame : Frame) → FitsFrame base.nodes s there what → left_by (frame_after what there) ≡ Some frame →
      IsTrue (contains base.nodes (s, frame.node)) ⊎ ((old : Frame) × (there ≡ Some old) × (old.node ≡ frame.node))
  unfolding frame_after
  node-left (Add n) there frame fits left = inl (subst (λ (f : Frame). IsTrue (contains base.nodes (s, f.node))) (same_some _ frame left) fits.0)
  node-left Drop there frame fits left = cc
  node-left (Place q) (Some old) frame fits left = inr (old, refl, ap (λ (f : Frame). f.node) (same_some _ frame left))
  node-left (Unplace q) (Some old) frame fits left = inr (old, refl, ap (λ (f : Frame). f.node) (same_some _ frame left))
  node-left (AddSignal x) (Some old) frame fits left = inr (old, refl, ap (λ (f : Frame). f.node) (same_some _ frame left))
  node-left (DropSignal name) (Some old) frame fits left = inr (old, refl, ap (λ (f : Frame). f.node) (same_some _ frame left))
  node-left (Place q) None frame fits left = absurd fits
  node-left (Unplace q) None frame fits left = absurd fits
  node-left (AddSignal x) None frame fits left = absurd fits
  node-left (DropSignal name) None frame fits left = absurd fits

  frame-led : (t : Frames) → AreLed t → (f : Name) (what : FrameChange) → FitsFrame base.nodes s (get t (s, f)) what → AreLed (frames_after s (change.Frame f what) t)
  unfolding frames_after
  frame-led t led f what fits k frame found = elim (cases_Bool (eq_by_cmp owned.compare (s, f) k)) [
    | inl tie ↦
        let same : ◌≡◌ {A = Name × Name} (s, f) k = owned.exact (s, f) k (equal _ tie) in
        let left : left_by (frame_after what (get t (s, f))) ≡ Some frame = sym (settle-here t (s, f) _) ∙ ap (get (settle t (s, f) (frame_after what (get t (s, f))))) same ∙ found in (
          ap (λ (q : Name × Name). q.0) (sym same),
          elim (node-left what (get t (s, f)) frame fits left) [
            | inl known ↦ inl known
            | inr old ↦ elim (led (s, f) old.0 old.1).1 [
              | inl known ↦ inl (ap (λ n. contains base.nodes (s, n)) (sym old.2) ∙ known)
              | inr before ↦ inr (before.0, ap (get start) (sym same) ∙ before.1, before.2 ∙ old.2)
            ]
          ],
        )
    | inr apart ↦ led k frame (sym (settle-other t (s, f) k _ (other_key owned (s, f) k apart)) ∙ found)
  ]

  -- the frames after an edit
  abbrev Leaves : OwnRows → Type 0
  Leaves page = (u : Frames) × (page ≡ at u) × AreLed u

  change-leaves : (t : Frames) → AreLed t → (what : Change) → IsFrameChange base.params what → FitsRows (at t) what → Leaves (rows_after what (at t))
  unfolding grants_after
  change-leaves t led (change.Frame f what) of fits = (frames_after s (change.Frame f what) t, refl, frame-led t led f what fits)
  change-leaves t led (change.Grant slot channel node) of fits = absurd of
  change-leaves t led (change.Revoke slot channel) of fits = absurd of

  edit-leaves : (t : Frames) → AreLed t → (edit : Edit) → IsOfFrame base.params edit → FitsPage (at t) edit → Leaves (edited (at t) edit)
  unfolding edited
  edit-leaves t led (Rows rows) of fits = change-leaves t led rows.change of fits
  edit-leaves t led (NewVariant w parent depth) of fits = absurd of
  edit-leaves t led (NewFlat w from) of fits = absurd of
  edit-leaves t led (SetReleased w) of fits = absurd of
  edit-leaves t led (NewNode x n) of fits = absurd of
  edit-leaves t led (NewSupplier x key) of fits = absurd of
  edit-leaves t led (SetKey x key) of fits = absurd of
  edit-leaves t led (KeepImport x label w body rows) of fits = absurd of

  edits-leave : (edits : List Edit) (t : Frames) (last : OwnRows) → AreLed t → AllByRecursion (IsOfFrame base.params) edits → Leads v (at t) edits last → Leaves last
  edits-leave [] t last led of leads = (t, leads, led)
  edits-leave (edit ∷ edits) t last led of leads =
      let one = edit-leaves t led edit of.0 leads.1 in
      edits-leave edits one.0 last one.2 of.1 (subst (λ m. Leads v m edits last) one.1 leads.2)

-- ---- the edits between two pages are of frames

module _ (p : Params) where
  abbrev OfFrames : List Edit → Type 0
  OfFrames edits = AllByRecursion (IsOfFrame p) edits

  of-append : (ones others : List Edit) → OfFrames ones → OfFrames others → OfFrames (ones ++ others)
  of-append [] others one then = then
  of-append (edit ∷ ones) others one then = (one.0, of-append ones others one.1 then)

  of-reverse : (edits : List Edit) → OfFrames edits → OfFrames (reverse edits)
  of-reverse [] of = tt
  of-reverse (edit ∷ edits) of = subst OfFrames (sym (reverse-append (edit ∷ []) edits)) (of-append (reverse edits) (edit ∷ []) (of-reverse edits of.1) (of.0, tt))

  abbrev AreCounted : Name → List FrameChange → Type 0
  AreCounted f whats = AllByRecursion (λ what. IsCounted p (change.Frame f what)) whats

  of-changes : (s v f : Name) (whats : List FrameChange) → AreCounted f whats → OfFrames (frame_edits s v f whats)
  of-changes s v f [] counted = tt
  of-changes s v f (what ∷ whats) counted = (counted.0, of-changes s v f whats counted.1)

  rows-counted : (f : Name) (qs : List Placement) (ss : List SignalData) → AllByRecursion (λ q. q.cycles.count ≡ p.cycles) qs → AreCounted f (map Place qs ++ map AddSignal ss)
  rows-counted f [] [] all = tt
  rows-counted f [] (x ∷ ss) all = (tt, rows-counted f [] ss all)
  rows-counted f (q ∷ qs) ss all = (all.0, rows-counted f qs ss all.1)

  endings-counted : (f : Name) (qs : List Placement) (ss : List SignalData) → AreCounted f (map ending (map Place qs ++ map AddSignal ss))
  endings-counted f [] [] = tt
  endings-counted f [] (x ∷ ss) = (tt, endings-counted f [] ss)
  endings-counted f (q ∷ qs) ss = (tt, endings-counted f qs ss)

  -- a frame's placements fit the cluster
  abbrev Fitting : Frame → Type 0
  Fitting frame = All (FitsCluster p) (placements_in frame)

  places-counted : (frame : Frame) (other : Option Frame) → Fitting frame → AllByRecursion (λ q. q.cycles.count ≡ p.cycles) (filter (λ q. not (has_place other q)) (placements_in frame))
  places-counted frame other fits =
      recursion_from_All _ _ (All-filter (λ q. not (has_place other q)) (λ q. q.cycles.count ≡ p.cycles) (placements_in frame) (All-weaker (FitsCluster p) (λ q. q.cycles.count ≡ p.cycles) (λ q fit. fit.count) (placements_in frame) fits))

  gains-counted : (f : Name) (frame : Frame) (other : Option Frame) → Fitting frame → AreCounted f (gains frame other)
  gains-counted f frame None fits = (tt, rows-counted f _ _ (places-counted frame None fits))
  gains-counted f frame (Some other) fits = rows-counted f _ _ (places-counted frame (Some other) fits)

  losses-counted : (f : Name) (frame : Frame) (other : Option Frame) → AreCounted f (losses frame other)
  losses-counted f frame None = (tt, tt)
  losses-counted f frame (Some other) = endings-counted f _ _

  abbrev Row : Type 0
  Row = (Name × Name) × Frame

  coming-of : (s v : Name) (others : Table owned Frame) (rows : List Row) → AllByRecursion (λ row. Fitting row.1) rows → OfFrames (coming s v others rows)
  coming-of s v others [] fits = tt
  coming-of s v others (row ∷ rows) fits =
      of-append _ (coming s v others rows) (of-changes s v row.0.1 _ (gains-counted row.0.1 row.1 (of_node row.1.node (get others row.0)) fits.0)) (coming-of s v others rows fits.1)

  going-of : (s v : Name) (others : Table owned Frame) (rows : List Row) → OfFrames (going s v others rows)
  going-of s v others [] = tt
  going-of s v others (row ∷ rows) =
      of-append _ (going s v others rows) (of-changes s v row.0.1 _ (losses-counted row.0.1 row.1 (of_node row.1.node (get others row.0)))) (going-of s v others rows)

-- ---- where edits led

fitting-each : (page : OwnRows) → IsPage page → (rows : List ((Name × Name) × Frame)) → AllByRecursion (λ row. get page.frames row.0 ≡ Some row.1) rows → AllByRecursion (λ row. All (FitsCluster page.params) (placements_in row.1)) rows
fitting-each page fine [] found = tt
fitting-each page fine (row ∷ rows) found = ((fine.each row.0 row.1 found.0).fits, fitting-each page fine rows found.1)

module _ (v : Name) (frozen : Bool) (start : OwnRows) (words : start.params.payload_words ≤ 127) (fine : IsPage start) (own : (k : Name × Name) (frame : Frame) → get start.frames k ≡ Some frame → k.0 ≡ start.supplier) where
  -- The page takes them, and they are of frames.
  pub record AreLeading (edits : List Edit) (last : OwnRows) : Type 0 where
    pub leads : Leads v start edits last
    pub frames : AllByRecursion (IsOfFrame start.params) edits

  -- the edits between a page and the draft that edits of frames led to
  pub led-between : (d : DraftData) → IsLed v frozen start words d → AreLeading (edits_between v start d.page) d.page
  unfolding edits_between
  led-between d led =
      let left = edits-leave v start start.frames d.edits start.frames d.page (λ k frame found. (own k frame found, inr (frame, found, refl))) led.frames led.leads in
      let fine_left : IsPage (record start { frames = left.0 }) = subst IsPage left.1 led.page in
      let known : AreKnown v start words start.frames left.0 fine fine_left own (λ k frame found. (left.2 k frame found).0) = λ k frame found is. elim (left.2 k frame found).1 [
        | inl known ↦ known
        | inr old ↦
            let same : same_text old.0.node frame.node ≡ true = ap (λ n. same_text n frame.node) old.2 ∙ same_text-itself frame.node in
            let none : Some old.0 ≡ None = sym (ap (of_node frame.node) old.1 ∙ ap (λ b. cond b (Some old.0) None) same) ∙ is in
            cc
      ] in
      subst (λ last. AreLeading (edits_between v start last) last) (sym left.1) (record {
        leads = between-leads v start words start.frames left.0 fine fine_left own (λ k frame found. (left.2 k frame found).0) known;
        frames = of-append start.params _ _ (of-reverse start.params _ (going-of start.params start.supplier v left.0 start.frames.rows))
            (coming-of start.params start.supplier v start.frames left.0.rows (fitting-each (record start { frames = left.0 }) fine_left left.0.rows (found-each v start words left.0)));
      })
