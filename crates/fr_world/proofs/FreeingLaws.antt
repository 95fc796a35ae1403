-- Changes that free or clear a frame: the page admits them, one after the other, and then the frame has no placements, or no
-- signals.
use Rattle.std.proofs.Common.{◌≡◌, ◌≢◌, ℕ, IsTrue, ◌||◌, Bool, true, false, not, cond, All, AllPairs, List, [], ◌∷◌, map, filter, Option, Some, None, Ok, refl, sym, ap, subst, ◌∙◌, is_some, inl, inr, Ordering, Less, Equal, Greater}
use Rattle.std.specs.Prelude.{T, ⊤}
use Rattle.std.specs.Ordering.{is_eq, is_lt, eq_by_cmp}
use Rattle.std.specs.List.{list_any}
use Rattle.std.proofs.lemmas.Bool.{cases_Bool}
use Rattle.std.specs.FinMap.Entries.{find, is_sorted, below_all}
use Rattle.std.proofs.lemmas.List.Elements.{All-head, All-tail}
use Rattle.fr_base.specs.TableRows.{first, second}
use Rattle.fr_base.specs.Refusing.{◌>>=◌, ◌or◌, refuse◌when◌}
use Rattle.fr_base.specs.Tables.{Order, Table, Becomes, Gone, empty, get, contains, insert, only, remove, settle}
use Rattle.fr_base.specs.Keys.{owned}
use Rattle.fr_base.specs.Names.{same_text}
use Rattle.fr_base.specs.Layouts.{has_signal, without_signal}
use Rattle.fr_base.specs.Signals.{SignalData}
use Rattle.fr_base.specs.Book.{Frame}
use Rattle.fr_base.specs.Queries.{placements_in}
use Rattle.fr_base.specs.Step.{OwnRows, admits, admits_frame, frame_after, frames_after, freed, names_with, cleared}
use Rattle.fr_base.specs.declared.import.Header.{Header}
use Rattle.fr_base.specs.declared.import.Header.TheVariants.{Frames, Placements, Signals}
use Rattle.fr_base.specs.declared.import.RowRead.{RowRead}
use Rattle.fr_base.specs.declared.name.Name.{Name}
use Rattle.fr_base.specs.declared.placement.Placement.{Placement}
use Rattle.fr_base.specs.declared.request.Change.TheVariants as change
use Rattle.fr_base.specs.declared.request.FrameChange.{FrameChange}
use Rattle.fr_base.specs.declared.request.FrameChange.TheVariants.{Drop, Unplace, DropSignal}
use Rattle.fr_base.proofs.TableLaws.{insert-same, same_rows}
use Rattle.fr_base.proofs.SoundTables.{get-put, insert-again, same_key}
use Rattle.fr_base.proofs.SoundRows.{same_text-is}
use Rattle.fr_base.proofs.AloneCells.{same_text-itself}
use Rattle.fr_base.proofs.LayoutLaws.{AllPairs-head, AllPairs-tail}
use Rattle.fr_world.specs.Decisions.{admits_alone}
use Rattle.fr_world.specs.Edits.{rows_after}
use Rattle.fr_world.specs.Pages.{IsPage}
use Rattle.fr_world.specs.ReplacementDecisions.{AreAdmitted, clearing, freeing}
use Rattle.fr_world.proofs.RemoveLaws.{remove-none}

-- ---- tables

pub below_other : (r : Ordering) → T (is_lt r) → is_eq r ≡ false
below_other Less h = refl
below_other Equal h = absurd h
below_other Greater h = refl

-- no key above this one is taken out with it
above-stay : {K V : Type 0} (o : Order K) (k : K) (es : List (K × V)) → T (below_all o.compare k es) → filter (λ e. not (eq_by_cmp o.compare k e.0)) es ≡ es
above-stay o k [] h = refl
above-stay o k (e ∷ es) h =
    ap (λ b. cond (not b) (e ∷ filter (λ e. not (eq_by_cmp o.compare k e.0)) es) (filter (λ e. not (eq_by_cmp o.compare k e.0)) es)) (below_other (o.compare k e.0) (first _ _ h))
    ∙ ap (λ rest. e ∷ rest) (above-stay o k es (second _ _ h))

module _ {K V : Type 0} {o : Order K} where
  -- a table without its first row
  pub remove-first : (t : Table o V) (k : K) (v : V) (rest : List (K × V)) → t.rows ≡ (k, v) ∷ rest → (remove t k).rows ≡ rest
  unfolding remove only
  remove-first t k v rest is =
      ap (filter (λ e. not (eq_by_cmp o.compare k e.0))) is
      ∙ ap (λ b. cond (not b) ((k, v) ∷ filter (λ e. not (eq_by_cmp o.compare k e.0)) rest) (filter (λ e. not (eq_by_cmp o.compare k e.0)) rest)) (same_key o k)
      ∙ above-stay o k rest (first _ _ (subst (λ es. T (is_sorted o.compare es)) is t.sorted))

  -- which is there
  first-there : (t : Table o V) (k : K) (v : V) (rest : List (K × V)) → t.rows ≡ (k, v) ∷ rest → get t k ≡ Some v
  unfolding get
  first-there t k v rest is = ap (find o.compare k) is ∙ ap (λ b. cond b (Some v) (find o.compare k rest)) (same_key o k)

-- ---- changes of a frame, one after the other

-- the frames after changes of one of them
abbrev pub ended : Name → Name → Table owned Frame → List FrameChange → Table owned Frame
ended s f frames [] = frames
ended s f frames (what ∷ rest) = ended s f (frames_after s (change.Frame f what) frames) rest

module _ (s f : Name) (frames : Table owned Frame) (frame : Frame) (found : get frames (s, f) ≡ Some frame) where
  one-ended : (what : FrameChange) → frames_after s (change.Frame f what) frames ≡ settle frames (s, f) (frame_after what (Some frame))
  unfolding frames_after
  one-ended what = ap (λ there. settle frames (s, f) (frame_after what there)) found

  pub unplaced : (q : Placement) → frames_after s (change.Frame f (Unplace q)) frames ≡ insert frames (s, f) (record frame { placements = remove frame.placements q })
  unfolding settle frame_after
  unplaced q = one-ended (Unplace q)

  pub unsignalled : (name : List ℕ) → frames_after s (change.Frame f (DropSignal name)) frames ≡ insert frames (s, f) (record frame { signals = without_signal name frame.signals })
  unfolding settle frame_after
  unsignalled name = one-ended (DropSignal name)

-- ---- placements

abbrev listed : List Placement → List (Placement × ⊤)
listed qs = map (λ q. (q, tt)) qs

list-rows : (rows : List (Placement × ⊤)) → listed (map (λ q. q.0) rows) ≡ rows
list-rows [] = refl
list-rows (q ∷ rows) = ap (λ rest. q ∷ rest) (list-rows rows)

placements-ended : (s f : Name) (qs : List Placement) (frames : Table owned Frame) (frame : Frame) → get frames (s, f) ≡ Some frame → frame.placements.rows ≡ listed qs →
    ended s f frames (map Unplace qs) ≡ insert frames (s, f) (record frame { placements = empty })
unfolding empty
placements-ended s f [] frames frame found is =
    let none : frame.placements ≡ empty = same_rows frame.placements empty is in
    sym (insert-same frames (s, f) (record frame { placements = empty }) (found ∙ λ i. Some (record frame { placements = none i })))
placements-ended s f (q ∷ qs) frames frame found is =
    let left : Frame = record frame { placements = remove frame.placements q } in
    ap (λ t. ended s f t (map Unplace qs)) (unplaced s f frames frame found q)
    ∙ placements-ended s f qs (insert frames (s, f) left) left (get-put frames (s, f) left) (remove-first frame.placements q tt (listed qs) is)
    ∙ insert-again frames (s, f) left (record frame { placements = empty })

pub unplace-admitted : (f : Name) (page : OwnRows) (frame : Frame) (q : Placement) → get page.frames (page.supplier, f) ≡ Some frame → IsTrue (contains frame.placements q) → admits_alone page (change.Frame f (Unplace q)) ≡ Ok tt
unfolding admits admits_frame ◌or◌ ◌>>=◌ refuse◌when◌
unplace-admitted f page frame q found there = rw (found, there) refl

placements-admitted : (f : Name) (qs : List Placement) (page : OwnRows) (frame : Frame) → get page.frames (page.supplier, f) ≡ Some frame → frame.placements.rows ≡ listed qs → AreAdmitted page f (map Unplace qs)
placements-admitted f [] page frame found is = tt
placements-admitted f (q ∷ qs) page frame found is =
    let left : Frame = record frame { placements = remove frame.placements q } in (
      unplace-admitted f page frame q found (ap is_some (first-there frame.placements q tt (listed qs) is)),
      tt,
      placements-admitted f qs (rows_after (change.Frame f (Unplace q)) page) left
          (ap (λ t. get t (page.supplier, f)) (unplaced page.supplier f page.frames frame found q) ∙ get-put page.frames (page.supplier, f) left)
          (remove-first frame.placements q tt (listed qs) is),
    )

-- ---- signals

abbrev pub Differ : SignalData → SignalData → Type 0
Differ x y = x.name ≢ y.name

pub others-stay : (x : SignalData) (xs : List SignalData) → All (Differ x) xs → without_signal x.name xs ≡ xs
others-stay x [] other = refl
others-stay x (y ∷ xs) other =
    ap (λ b. cond (not b) (y ∷ without_signal x.name xs) (without_signal x.name xs)) (apart (same_text y.name x.name) refl)
    ∙ ap (λ rest. y ∷ rest) (others-stay x xs (All-tail (Differ x) y xs other))
  where
    apart : (b : Bool) → same_text y.name x.name ≡ b → same_text y.name x.name ≡ false
    apart true e = absurd (All-head (Differ x) y xs other (sym (same_text-is y.name x.name e)))
    apart false e = e

pub first-dropped : (x : SignalData) (xs : List SignalData) → AllPairs Differ (x ∷ xs) → without_signal x.name (x ∷ xs) ≡ xs
first-dropped x xs differ =
    ap (λ b. cond (not b) (x ∷ without_signal x.name xs) (without_signal x.name xs)) (same_text-itself x.name)
    ∙ others-stay x xs (AllPairs-head Differ x xs differ)

module _ (frame : Frame) (x : SignalData) (xs : List SignalData) (is : frame.signals ≡ x ∷ xs) (differ : AllPairs Differ (x ∷ xs)) where
  left_signals : without_signal x.name frame.signals ≡ xs
  left_signals = ap (without_signal x.name) is ∙ first-dropped x xs differ

  has_first : IsTrue (has_signal frame.signals x.name)
  has_first = ap (λ signals. has_signal signals x.name) is ∙ ap (λ b. b || has_signal xs x.name) (same_text-itself x.name)

signals-ended : (s f : Name) (xs : List SignalData) (frames : Table owned Frame) (frame : Frame) → get frames (s, f) ≡ Some frame → frame.signals ≡ xs → AllPairs Differ xs →
    ended s f frames (map (λ x. DropSignal x.name) xs) ≡ insert frames (s, f) (record frame { signals = [] })
signals-ended s f [] frames frame found is differ =
    sym (insert-same frames (s, f) (record frame { signals = [] }) (found ∙ λ i. Some (record frame { signals = is i })))
signals-ended s f (x ∷ xs) frames frame found is differ =
    let left : Frame = record frame { signals = without_signal x.name frame.signals } in
    ap (λ t. ended s f t (map (λ x. DropSignal x.name) xs)) (unsignalled s f frames frame found x.name)
    ∙ signals-ended s f xs (insert frames (s, f) left) left (get-put frames (s, f) left) (left_signals frame x xs is differ) (AllPairs-tail Differ x xs differ)
    ∙ insert-again frames (s, f) left (record frame { signals = [] })

pub drop-admitted : (f : Name) (page : OwnRows) (frame : Frame) (name : List ℕ) → get page.frames (page.supplier, f) ≡ Some frame → IsTrue (has_signal frame.signals name) → admits_alone page (change.Frame f (DropSignal name)) ≡ Ok tt
unfolding admits admits_frame ◌or◌ ◌>>=◌ refuse◌when◌
drop-admitted f page frame name found there = rw (found, there) refl

signals-admitted : (f : Name) (xs : List SignalData) (page : OwnRows) (frame : Frame) → get page.frames (page.supplier, f) ≡ Some frame → frame.signals ≡ xs → AllPairs Differ xs → AreAdmitted page f (map (λ x. DropSignal x.name) xs)
signals-admitted f [] page frame found is differ = tt
signals-admitted f (x ∷ xs) page frame found is differ =
    let left : Frame = record frame { signals = without_signal x.name frame.signals } in (
      drop-admitted f page frame x.name found (has_first frame x xs is differ),
      tt,
      signals-admitted f xs (rows_after (change.Frame f (DropSignal x.name)) page) left
          (ap (λ t. get t (page.supplier, f)) (unsignalled page.supplier f page.frames frame found x.name) ∙ get-put page.frames (page.supplier, f) left)
          (left_signals frame x xs is differ) (AllPairs-tail Differ x xs differ),
    )

-- ---- a frame that is freed

-- no two of a frame's signals have one name
abbrev pub IsNamed : Option Frame → Type 0
IsNamed None = ⊤
IsNamed (Some frame) = AllPairs Differ frame.signals

-- the changes leave the frame as it is freed
pub freeing-ends : (s f : Name) (kind : Header) (frames : Table owned Frame) (there : Option Frame) → get frames (s, f) ≡ there → IsNamed there →
    ended s f frames (freeing kind there) ≡ settle frames (s, f) (freed kind there)
unfolding settle freed
freeing-ends s f Frames frames (Some frame) found named = sym (insert-same frames (s, f) frame found)
freeing-ends s f Placements frames (Some frame) found named = placements-ended s f (placements_in frame) frames frame found (sym (list-rows frame.placements.rows))
freeing-ends s f Signals frames (Some frame) found named = signals-ended s f frame.signals frames frame found refl named
freeing-ends s f Frames frames None found named = sym (remove-none owned frames (s, f) found)
freeing-ends s f Placements frames None found named = sym (remove-none owned frames (s, f) found)
freeing-ends s f Signals frames None found named = sym (remove-none owned frames (s, f) found)

-- and the page admits them
pub freeing-admitted : (page : OwnRows) (f : Name) (kind : Header) (there : Option Frame) → get page.frames (page.supplier, f) ≡ there → IsNamed there → AreAdmitted page f (freeing kind there)
freeing-admitted page f Frames (Some frame) found named = tt
freeing-admitted page f Placements (Some frame) found named = placements-admitted f (placements_in frame) page frame found (sym (list-rows frame.placements.rows))
freeing-admitted page f Signals (Some frame) found named = signals-admitted f frame.signals page frame found refl named
freeing-admitted page f Frames None found named = tt
freeing-admitted page f Placements None found named = tt
freeing-admitted page f Signals None found named = tt

-- ---- a frame that is cleared

stays-so : (frame : Frame) → freed Frames (Some frame) ≡ Becomes frame
unfolding freed
stays-so frame = refl

none-so : freed Frames None ≡ Gone
unfolding freed
none-so = refl

gone-so : (frame : Frame) → frame_after Drop (Some frame) ≡ Gone
unfolding frame_after
gone-so frame = refl

-- the changes leave the frame as it is cleared
pub clearing-ends : (s f : Name) (kind : Header) (reads : List RowRead) (frames : Table owned Frame) (there : Option Frame) → get frames (s, f) ≡ there → IsNamed there →
    ended s f frames (clearing kind reads f there) ≡ settle frames (s, f) (cleared kind reads f there)
unfolding cleared
clearing-ends s f Frames reads frames (Some frame) found named = elim (cases_Bool (list_any (λ read. names_with f frame.node read.row) reads)) [
  | inl stays ↦ rw stays (freeing-ends s f Frames frames (Some frame) found named ∙ ap (settle frames (s, f)) (stays-so frame))
  | inr goes ↦ rw goes (one-ended s f frames frame found Drop ∙ ap (settle frames (s, f)) (gone-so frame))
]
clearing-ends s f Frames reads frames None found named = freeing-ends s f Frames frames None found named ∙ ap (settle frames (s, f)) none-so
clearing-ends s f Placements reads frames there found named = freeing-ends s f Placements frames there found named
clearing-ends s f Signals reads frames there found named = freeing-ends s f Signals frames there found named

pub drop_frame-admitted : (f : Name) (page : OwnRows) (frame : Frame) → get page.frames (page.supplier, f) ≡ Some frame → admits_alone page (change.Frame f Drop) ≡ Ok tt
unfolding admits admits_frame ◌or◌ ◌>>=◌ refuse◌when◌
drop_frame-admitted f page frame found = rw found refl

-- and the page admits them
pub clearing-admitted : (page : OwnRows) (f : Name) (kind : Header) (reads : List RowRead) (there : Option Frame) → get page.frames (page.supplier, f) ≡ there → IsNamed there → AreAdmitted page f (clearing kind reads f there)
clearing-admitted page f Frames reads (Some frame) found named = elim (cases_Bool (list_any (λ read. names_with f frame.node read.row) reads)) [
  | inl stays ↦ rw stays tt
  | inr goes ↦ rw goes (drop_frame-admitted f page frame found, tt, tt)
]
clearing-admitted page f Frames reads None found named = tt
clearing-admitted page f Placements reads there found named = freeing-admitted page f Placements there found named
clearing-admitted page f Signals reads there found named = freeing-admitted page f Signals there found named

-- a page's frames are so
pub page-named : (page : OwnRows) → IsPage page → (k : Name × Name) (there : Option Frame) → get page.frames k ≡ there → IsNamed there
page-named page fine k None found = tt
page-named page fine k (Some frame) found = (fine.each k frame found).layout.names
