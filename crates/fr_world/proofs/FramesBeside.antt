-- A frame beside another: the changes that add what the one has and the other has not, taken back one after another, the last
-- first. Each can be ended where those after it were, and the change adds again what was ended. What is left of each is what both have.
use Rattle.std.proofs.Common.{◌≡◌, ◌≢◌, ◌&&◌, ◌||◌, ◌++◌, IsTrue, Bool, true, false, not, cond, AllPairs, List, [], ◌∷◌, map, filter, Option, Some, None, is_some, Ok, refl, sym, ap, subst, ◌∙◌, inl, inr, true≢false}
use Rattle.std.specs.Prelude.{T, ⊤}
use Rattle.std.specs.Ordering.{eq_by_cmp}
use Rattle.std.specs.FinMap.Entries.{find, is_sorted, below_all}
use Rattle.std.specs.List.{AllByRecursion, list_any}
use Rattle.std.proofs.lemmas.Bool.{cases_Bool}
use Rattle.std.proofs.lemmas.List.Elements.{recursion_from_All}
use Rattle.std.proofs.lemmas.List.Kept.{AllPairs-filter}
use Rattle.std.proofs.lemmas.Map.Views.{any-filter_same}
use Rattle.fr_base.specs.TableRows.{first, second}
use Rattle.fr_base.specs.Tables.{Order, Table, Fate, Becomes, Gone, empty, get, contains, insert, left_by, only, remove, settle}
use Rattle.fr_base.specs.Keys.{owned, placement_order}
use Rattle.fr_base.specs.Names.{same_text}
use Rattle.fr_base.specs.Book.{Frame}
use Rattle.fr_base.specs.Queries.{placements_in}
use Rattle.fr_base.specs.Signals.{SignalData}
use Rattle.fr_base.specs.Step.{OwnRows, frame_after}
use Rattle.fr_base.specs.declared.name.Name.{Name}
use Rattle.fr_base.specs.declared.placement.Placement.{Placement}
use Rattle.fr_base.specs.declared.request.Change.TheVariants as change
use Rattle.fr_base.specs.declared.request.FrameChange.{FrameChange}
use Rattle.fr_base.specs.declared.request.FrameChange.TheVariants.{Add, Drop, Place, Unplace, AddSignal, DropSignal}
use Rattle.fr_base.proofs.AloneCells.{same_text-itself}
use Rattle.fr_base.proofs.DifferenceRows.{rows-found}
use Rattle.fr_base.proofs.LayoutLaws.{AllPairs-head, AllPairs-tail, Rises}
use Rattle.fr_base.proofs.SettledRows.{settle-here, settle-other}
use Rattle.fr_base.proofs.SoundRows.{same_text-is}
use Rattle.fr_base.proofs.SoundTables.{other_key, value_of}
use Rattle.fr_base.proofs.TableLaws.{equal, get-insert, get-only, kept, same_rows, same_table}
use Rattle.fr_world.specs.Decisions.{admits_alone}
use Rattle.fr_world.specs.Edits.{FitsFrame}
use Rattle.fr_world.specs.PageEdits.{carries, ending, gains, has_place, of_node, rows_beside}
use Rattle.fr_world.proofs.FreeingLaws.{Differ, below_other, drop-admitted, drop_frame-admitted, unplace-admitted}
use Rattle.fr_world.proofs.SignalsBeside.{IsIn, has-in, in-filter, in-stripped, in_both, lacks-dropped, none-kept, other_text, pairs-stripped, put-back, stripped, stripped-filter}

-- ---- lists

all-filtered : {X : Type 0} (P : X → Type 0) (p : X → Bool) (xs : List X) → AllByRecursion P xs → AllByRecursion P (filter p xs)
all-filtered P p [] all = tt
all-filtered P p (x ∷ xs) all = by (p x) (all-filtered P p xs all.1)
  where
    by : (b : Bool) → AllByRecursion P (filter p xs) → AllByRecursion P (cond b (x ∷ filter p xs) (filter p xs))
    by true rest = (all.0, rest)
    by false rest = rest

-- ---- tables

module _ {K V : Type 0} {o : Order K} where
  -- what stood at a key, put there again after something became of it
  pub put-again : (t : Table o V) (k : K) (fate : Fate V) (v : V) → get t k ≡ Some v → insert (settle t k fate) k v ≡ t
  put-again t k fate v found = same_table _ _ (λ q. get-insert (settle t k fate) k v q ∙ elim (cases_Bool (eq_by_cmp o.compare q k)) [
    | inl tie ↦ ap (λ b. cond b (Some v) (get (settle t k fate) q)) tie ∙ sym (ap (get t) (o.exact q k (equal _ tie)) ∙ found)
    | inr apart ↦ ap (λ b. cond b (Some v) (get (settle t k fate) q)) apart ∙ settle-other t k q fate (λ same. other_key o q k apart (sym same))
  ])

-- ---- placements are taken back

abbrev Places : Type 0
Places = Table placement_order ⊤

-- the placements without those of a list, of which the first goes last
abbrev pub unplaced : List Placement → Places → Places
unplaced [] t = t
unplaced (q ∷ qs) t = remove (unplaced qs t) q

-- no placement stands twice
abbrev Apart : List Placement → Type 0
Apart [] = ⊤
Apart (q ∷ qs) = AllByRecursion (λ r. r ≢ q) qs × Apart qs

gone-here : (t : Places) (q : Placement) → get (remove t q) q ≡ None
unfolding settle
gone-here t q = settle-here t q Gone

stays-there : (t : Places) (q r : Placement) → q ≢ r → get (remove t q) r ≡ get t r
unfolding settle
stays-there t q r other = settle-other t q r Gone other

there-still : (qs : List Placement) (t : Places) (q : Placement) → AllByRecursion (λ r. r ≢ q) qs → get (unplaced qs t) q ≡ get t q
there-still [] t q apart = refl
there-still (r ∷ qs) t q apart = stays-there (unplaced qs t) r q apart.0 ∙ there-still qs t q apart.1

get-unplaced : (qs : List Placement) (t : Places) (r : Placement) → get (unplaced qs t) r ≡ cond (list_any (eq_by_cmp placement_order.compare r) qs) None (get t r)
get-unplaced [] t r = refl
get-unplaced (q ∷ qs) t r = elim (cases_Bool (eq_by_cmp placement_order.compare r q)) [
  | inl tie ↦
      ap (get (remove (unplaced qs t) q)) (placement_order.exact r q (equal _ tie))
      ∙ gone-here (unplaced qs t) q
      ∙ sym (ap (λ b. cond (b || list_any (eq_by_cmp placement_order.compare r) qs) None (get t r)) tie)
  | inr apart ↦
      stays-there (unplaced qs t) q r (λ same. other_key placement_order r q apart (sym same))
      ∙ get-unplaced qs t r
      ∙ sym (ap (λ b. cond (b || list_any (eq_by_cmp placement_order.compare r) qs) None (get t r)) apart)
]

keys-found : (rows : List (Placement × ⊤)) (r : Placement) → list_any (eq_by_cmp placement_order.compare r) (map (λ q. q.0) rows) ≡ is_some (find placement_order.compare r rows)
keys-found [] r = refl
keys-found (e ∷ rows) r = by (eq_by_cmp placement_order.compare r e.0) (keys-found rows r)
  where
    by : (b : Bool) → list_any (eq_by_cmp placement_order.compare r) (map (λ q. q.0) rows) ≡ is_some (find placement_order.compare r rows) →
        (b || list_any (eq_by_cmp placement_order.compare r) (map (λ q. q.0) rows)) ≡ is_some (cond b (Some e.1) (find placement_order.compare r rows))
    by true rest = refl
    by false rest = rest

module _ (p : Placement → Bool) (t : Places) where
  abbrev lost : List Placement
  lost = filter (λ q. not (p q)) (map (λ q. q.0) t.rows)

  tested : (r : Placement) (b : Bool) (o : Option ⊤) → p r ≡ b → cond (not b && is_some o) None o ≡ kept (λ q _. p q) r o
  tested r true None is = refl
  tested r false None is = refl
  tested r true (Some x) is = rw is refl
  tested r false (Some x) is = rw is refl

  left-at : (r : Placement) → get (unplaced lost t) r ≡ kept (λ q _. p q) r (get t r)
  unfolding get
  left-at r =
      get-unplaced lost t r
      ∙ ap (λ b. cond b None (get t r))
      (any-filter_same (eq_by_cmp placement_order.compare r) (λ q. not (p q)) (not (p r)) (λ q tie. ap (λ x. not (p x)) (sym (placement_order.exact r q (equal _ tie)))) (map (λ q. q.0) t.rows)
      ∙ ap (λ b. not (p r) && b) (keys-found t.rows r))
      ∙ tested r (p r) (get t r) refl

  -- where all that fail a test are taken back, those that pass are left
  left-only : unplaced lost t ≡ only (λ q _. p q) t
  left-only = same_table _ _ (λ r. left-at r ∙ sym (get-only placement_order (λ q _. p q) t r))

below-apart : (k : Placement) (rows : List (Placement × ⊤)) → T (below_all placement_order.compare k rows) → AllByRecursion (λ r. r ≢ k) (map (λ q. q.0) rows)
below-apart k [] below = tt
below-apart k (e ∷ rows) below =
    (λ same. other_key placement_order k e.0 (below_other (placement_order.compare k e.0) (first _ _ below)) (sym same), below-apart k rows (second _ _ below))

rows-apart : (rows : List (Placement × ⊤)) → T (is_sorted placement_order.compare rows) → Apart (map (λ q. q.0) rows)
rows-apart [] sorted = tt
rows-apart (e ∷ rows) sorted = (below-apart e.0 rows (first _ _ sorted), rows-apart rows (second _ _ sorted))

filter-apart : (p : Placement → Bool) (qs : List Placement) → Apart qs → Apart (filter p qs)
filter-apart p [] apart = tt
filter-apart p (q ∷ qs) apart = by (p q) (filter-apart p qs apart.1)
  where
    by : (b : Bool) → Apart (filter p qs) → Apart (cond b (q ∷ filter p qs) (filter p qs))
    by true rest = (all-filtered (λ r. r ≢ q) p qs apart.0, rest)
    by false rest = rest

there-each : (t : Places) (rows : List (Placement × ⊤)) → AllByRecursion (λ e. get t e.0 ≡ Some e.1) rows → AllByRecursion (λ q. IsTrue (contains t q)) (map (λ q. q.0) rows)
there-each t [] all = tt
there-each t (e ∷ rows) all = (ap is_some all.0, there-each t rows all.1)

-- each of a frame's placements is one of them
pub all-there : (t : Places) → AllByRecursion (λ q. IsTrue (contains t q)) (map (λ q. q.0) t.rows)
unfolding get
all-there t = there-each t t.rows (recursion_from_All _ t.rows (rows-found placement_order t.rows t.sorted))

-- ---- changes that add are taken back

-- what stands at the frame's name where what the changes added was ended, the last first
abbrev pub back : List FrameChange → Option Frame → Option Frame
back [] there = there
back (what ∷ whats) there = left_by (frame_after (ending what) (back whats there))

-- What the change adds is there, and nothing that hangs on it.
abbrev pub CanEnd : FrameChange → Option Frame → Type 0
CanEnd (Add n) there = there ≡ Some (record { node = n; placements = empty; signals = [] })
CanEnd (Place q) (Some frame) = IsTrue (contains frame.placements q)
CanEnd (AddSignal s) (Some frame) = IsIn s frame.signals × AllPairs Rises frame.signals × AllPairs Differ frame.signals
CanEnd _ _ = ⊥

-- So it is of each, where what those after it added was ended.
abbrev pub AllEnd : List FrameChange → Option Frame → Type 0
AllEnd [] there = ⊤
AllEnd (what ∷ whats) there = CanEnd what (back whats there) × AllEnd whats there

-- the change adds it again
pub added-again : (what : FrameChange) (there : Option Frame) → CanEnd what there → (frame : Frame) × (there ≡ Some frame) × (frame_after what (left_by (frame_after (ending what) there)) ≡ Becomes frame)
unfolding frame_after settle
added-again (Add n) there can = (record { node = n; placements = empty; signals = [] }, can, refl)
added-again (Place q) (Some frame) can =
    (frame, refl, λ i. Becomes (record frame { placements = put-again frame.placements q Gone tt (value_of (get frame.placements q) can).1 i }))
added-again (AddSignal s) (Some frame) can = (frame, refl, λ i. Becomes (record frame { signals = put-back s frame.signals can.1 can.2 can.0 i }))
added-again (Place q) None can = absurd can
added-again (AddSignal s) None can = absurd can
added-again Drop there can = absurd can
added-again (Unplace q) there can = absurd can
added-again (DropSignal name) there can = absurd can

-- a frame that the change adds has a node that the supplier has
abbrev pub IsKnown : Table owned ⊤ → Name → FrameChange → Type 0
IsKnown nodes s (Add n) = IsTrue (contains nodes (s, n))
IsKnown nodes s _ = ⊤

-- the change that adds it fits then
pub added-fits : (nodes : Table owned ⊤) (s : Name) (what : FrameChange) (there : Option Frame) → CanEnd what there → IsKnown nodes s what → FitsFrame nodes s (left_by (frame_after (ending what) there)) what
unfolding frame_after
added-fits nodes s (Add n) there can known = (known, refl)
added-fits nodes s (Place q) (Some frame) can known = gone-here frame.placements q
added-fits nodes s (AddSignal x) (Some frame) can known = lacks-dropped x.name frame.signals
added-fits nodes s (Place q) None can known = absurd can
added-fits nodes s (AddSignal x) None can known = absurd can
added-fits nodes s Drop there can known = absurd can
added-fits nodes s (Unplace q) there can known = absurd can
added-fits nodes s (DropSignal name) there can known = absurd can

-- and the page admits the change that ends it
pub ending-admitted : (page : OwnRows) (f : Name) (what : FrameChange) (there : Option Frame) → get page.frames (page.supplier, f) ≡ there → CanEnd what there → admits_alone page (change.Frame f (ending what)) ≡ Ok tt
ending-admitted page f (Add n) there found can = drop_frame-admitted f page _ (found ∙ can)
ending-admitted page f (Place q) (Some frame) found can = unplace-admitted f page frame q found can
ending-admitted page f (AddSignal s) (Some frame) found can = drop-admitted f page frame s.name found (has-in s frame.signals can.0)
ending-admitted page f (Place q) None found can = absurd can
ending-admitted page f (AddSignal s) None found can = absurd can
ending-admitted page f Drop there found can = absurd can
ending-admitted page f (Unplace q) there found can = absurd can
ending-admitted page f (DropSignal name) there found can = absurd can

back-append : (ones others : List FrameChange) (there : Option Frame) → back (ones ++ others) there ≡ back ones (back others there)
back-append [] others there = refl
back-append (what ∷ ones) others there = ap (λ o. left_by (frame_after (ending what) o)) (back-append ones others there)

all_end-append : (ones others : List FrameChange) (there : Option Frame) → AllEnd ones (back others there) → AllEnd others there → AllEnd (ones ++ others) there
all_end-append [] others there first then = then
all_end-append (what ∷ ones) others there first then =
    (subst (CanEnd what) (sym (back-append ones others there)) first.0, all_end-append ones others there first.1 then)

back-signals : (ss : List SignalData) (frame : Frame) → back (map AddSignal ss) (Some frame) ≡ Some (record frame { signals = stripped ss frame.signals })
unfolding frame_after
back-signals [] frame = refl
back-signals (s ∷ ss) frame = ap (λ o. left_by (frame_after (DropSignal s.name) o)) (back-signals ss frame)

back-places : (qs : List Placement) (frame : Frame) → back (map Place qs) (Some frame) ≡ Some (record frame { placements = unplaced qs frame.placements })
unfolding frame_after
back-places [] frame = refl
back-places (q ∷ qs) frame = ap (λ o. left_by (frame_after (Unplace q) o)) (back-places qs frame)

signals-end : (ss : List SignalData) (frame : Frame) → AllPairs Rises frame.signals → AllPairs Differ frame.signals → AllByRecursion (λ s. IsIn s frame.signals) ss → AllPairs Differ ss → AllEnd (map AddSignal ss) (Some frame)
signals-end [] frame rises differ all apart = tt
signals-end (s ∷ ss) frame rises differ all apart = (
  subst (CanEnd (AddSignal s)) (sym (back-signals ss frame))
      (in-stripped s ss frame.signals (recursion_from_All (Differ s) ss (AllPairs-head Differ s ss apart)) all.0, pairs-stripped Rises ss frame.signals rises, pairs-stripped Differ ss frame.signals differ),
  signals-end ss frame rises differ all.1 (AllPairs-tail Differ s ss apart),
)

places-end : (qs : List Placement) (frame : Frame) → AllByRecursion (λ q. IsTrue (contains frame.placements q)) qs → Apart qs → AllEnd (map Place qs) (Some frame)
places-end [] frame all apart = tt
places-end (q ∷ qs) frame all apart = (
  subst (CanEnd (Place q)) (sym (back-places qs frame)) (ap is_some (there-still qs frame.placements q apart.0) ∙ all.0),
  places-end qs frame all.1 apart.1,
)

-- ---- the rows that a frame has beside another's

-- no two of the frame's signals have one name, and their starts rise
pub record IsOrdered (frame : Frame) : Type 0 where
  pub rises : AllPairs Rises frame.signals
  pub differ : AllPairs Differ frame.signals

-- the rows that a frame has with another
abbrev common : Frame → Option Frame → Frame
common frame other = record frame { placements = only (λ q _. has_place other q) frame.placements; signals = filter (carries other) frame.signals }

module _ (frame : Frame) (other : Option Frame) (ordered : IsOrdered frame) where
  abbrev places : List Placement
  places = filter (λ q. not (has_place other q)) (placements_in frame)

  abbrev signals : List SignalData
  signals = filter (λ s. not (carries other s)) frame.signals

  abbrev left : Frame
  left = record frame { signals = stripped signals frame.signals }

  back-rows : back (rows_beside frame other) (Some frame) ≡ Some (common frame other)
  back-rows =
      back-append (map Place places) (map AddSignal signals) (Some frame)
      ∙ ap (back (map Place places)) (back-signals signals frame)
      ∙ back-places places left
      ∙ (λ i. Some (record frame { placements = left-only (has_place other) frame.placements i; signals = stripped-filter (carries other) frame.signals ordered.differ i }))

  rows-end : AllEnd (rows_beside frame other) (Some frame)
  rows-end =
      all_end-append (map Place places) (map AddSignal signals) (Some frame)
      (subst (AllEnd (map Place places)) (sym (back-signals signals frame))
      (places-end places left
      (all-filtered (λ q. IsTrue (contains frame.placements q)) (λ q. not (has_place other q)) (placements_in frame) (all-there frame.placements))
      (filter-apart (λ q. not (has_place other q)) (placements_in frame) (rows-apart frame.placements.rows frame.placements.sorted))))
      (signals-end signals frame ordered.rises ordered.differ (in-filter (λ s. not (carries other s)) frame.signals) (AllPairs-filter Differ (λ s. not (carries other s)) frame.signals ordered.differ))

-- ---- what a frame has and another has not

only-none : (t : Places) → only (λ q _. false) t ≡ empty
unfolding only empty
only-none t = same_rows _ _ (none-kept t.rows)

-- what is left of a frame beside what stands at its name in the other page
abbrev pub meet : Frame → Option Frame → Option Frame
meet frame None = None
meet frame (Some other) = Some (common frame (Some other))

module _ (frame : Frame) (ordered : IsOrdered frame) where
  pub back-gains : (other : Option Frame) → back (gains frame other) (Some frame) ≡ meet frame other
  unfolding frame_after
  back-gains None = refl
  back-gains (Some other) = back-rows frame (Some other) ordered

  pub gains-end : (other : Option Frame) → AllEnd (gains frame other) (Some frame)
  gains-end None = (
    back-rows frame None ordered ∙ (λ i. Some (record frame { placements = only-none frame.placements i; signals = none-kept frame.signals i })),
    rows-end frame None ordered,
  )
  gains-end (Some other) = rows-end frame (Some other) ordered

both-have : (a b : Option ⊤) (q : Placement) → kept {V = ⊤} (λ _ _. is_some b) q a ≡ kept (λ _ _. is_some a) q b
both-have None None q = refl
both-have None (Some y) q = refl
both-have (Some x) None q = refl
both-have (Some x) (Some y) q = refl

common-turned : (frame other : Frame) → IsOrdered frame → IsOrdered other → other.node ≡ frame.node → common frame (Some other) ≡ common other (Some frame)
common-turned frame other ordered ordered_other same =
    let placements : only (λ q _. contains other.placements q) frame.placements ≡ only (λ q _. contains frame.placements q) other.placements =
    same_table _ _ (λ q.
    get-only placement_order (λ q _. contains other.placements q) frame.placements q
    ∙ both-have (get frame.placements q) (get other.placements q) q
    ∙ sym (get-only placement_order (λ q _. contains frame.placements q) other.placements q)) in
    λ i. record { node = sym same i; placements = placements i; signals = in_both frame.signals other.signals ordered.rises ordered_other.rises i }

-- of two frames the same is left, whichever is beside the other
pub meet-turned : (frame other : Frame) → IsOrdered frame → IsOrdered other → meet frame (of_node frame.node (Some other)) ≡ meet other (of_node other.node (Some frame))
meet-turned frame other ordered ordered_other = elim (cases_Bool (same_text other.node frame.node)) [
  | inl is ↦
      let same : other.node ≡ frame.node = same_text-is other.node frame.node is in
      let turned : same_text frame.node other.node ≡ true = ap (same_text frame.node) same ∙ same_text-itself frame.node in
      rw (is, turned) (ap Some (common-turned frame other ordered ordered_other same))
  | inr apart ↦
      let turned : same_text frame.node other.node ≡ false = other_text frame.node other.node (λ same. true≢false (sym (ap (same_text other.node) same ∙ same_text-itself other.node) ∙ apart)) in
      rw (apart, turned) refl
]
