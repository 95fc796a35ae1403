-- A page that stays as it was has no edits.
use Rattle.std.proofs.Common.{◌≡◌, ◌++◌, ◌||◌, Bool, true, false, not, cond, List, [], ◌∷◌, map, filter, reverse, Some, None, refl, ap, ◌∙◌, inl, inr}
use Rattle.std.specs.List.{AllByRecursion}
use Rattle.std.proofs.lemmas.List.Elements.{recursion_from_All}
use Rattle.fr_base.specs.Tables.{Table, get}
use Rattle.fr_base.specs.Keys.{owned}
use Rattle.fr_base.specs.Book.{Frame}
use Rattle.fr_base.specs.Differences.{same_signal}
use Rattle.fr_base.specs.Queries.{placements_in}
use Rattle.fr_base.specs.Signals.{SignalData}
use Rattle.fr_base.specs.Step.{OwnRows}
use Rattle.fr_base.specs.declared.name.Name.{Name}
use Rattle.fr_base.specs.declared.request.FrameChange.TheVariants.{Place, AddSignal}
use Rattle.fr_base.proofs.AloneCells.{same_text-itself}
use Rattle.fr_base.proofs.DifferenceLaws.{signal-itself}
use Rattle.fr_base.proofs.DifferenceRows.{rows-found}
use Rattle.fr_world.specs.PageEdits.{carries, coming, edits_between, ending, frame_edits, gains, going, has_place, losses, of_node, rows_beside}
use Rattle.fr_world.proofs.FramesBeside.{all-there}
use Rattle.fr_world.proofs.SignalsBeside.{IsIn, in-later, is_in}

all-pass : {X : Type 0} (p : X → Bool) (xs : List X) → AllByRecursion (λ x. p x ≡ true) xs → filter (λ x. not (p x)) xs ≡ []
all-pass p [] all = refl
all-pass p (x ∷ xs) all = ap (λ b. cond (not b) (x ∷ filter (λ x. not (p x)) xs) (filter (λ x. not (p x)) xs)) all.0 ∙ all-pass p xs all.1

in-itself : (xs : List SignalData) → AllByRecursion (λ s. IsIn s xs) xs
in-itself [] = tt
in-itself (x ∷ xs) = (inl refl, in-later x xs xs (in-itself xs))

in-found : (s : SignalData) (xs : List SignalData) → IsIn s xs → is_in xs s ≡ true
in-found s [] there = absurd there
in-found s (x ∷ xs) (inl same) = ap (λ b. b || is_in xs s) (ap (same_signal s) same ∙ signal-itself s)
in-found s (x ∷ xs) (inr more) = by (same_signal s x) (in-found s xs more)
  where
    by : (b : Bool) → is_in xs s ≡ true → (b || is_in xs s) ≡ true
    by true h = refl
    by false h = h

each-found : (xs ss : List SignalData) → AllByRecursion (λ s. IsIn s xs) ss → AllByRecursion (λ s. is_in xs s ≡ true) ss
each-found xs [] all = tt
each-found xs (s ∷ ss) all = (in-found s xs all.0, each-found xs ss all.1)

-- a frame has nothing beside itself
beside-itself : (frame : Frame) → rows_beside frame (Some frame) ≡ []
beside-itself frame =
    let placements : filter (λ q. not (has_place (Some frame) q)) (placements_in frame) ≡ [] = all-pass (has_place (Some frame)) (placements_in frame) (all-there frame.placements) in
    let signals : filter (λ s. not (carries (Some frame) s)) frame.signals ≡ [] = all-pass (carries (Some frame)) frame.signals (each-found frame.signals frame.signals (in-itself frame.signals)) in
    λ i. map Place (placements i) ++ map AddSignal (signals i)

module _ (s v : Name) (t : Table owned Frame) where
  abbrev AreFound : List ((Name × Name) × Frame) → Type 0
  AreFound rows = AllByRecursion (λ row. get t row.0 ≡ Some row.1) rows

  same-found : (row : (Name × Name) × Frame) → get t row.0 ≡ Some row.1 → of_node row.1.node (get t row.0) ≡ Some row.1
  same-found row found = ap (of_node row.1.node) found ∙ ap (λ b. cond b (Some row.1) None) (same_text-itself row.1.node)

  none-coming : (rows : List ((Name × Name) × Frame)) → AreFound rows → coming s v t rows ≡ []
  none-coming [] found = refl
  none-coming (row ∷ rows) found =
      ap (λ o. frame_edits s v row.0.1 (gains row.1 o) ++ coming s v t rows) (same-found row found.0)
      ∙ ap (λ whats. frame_edits s v row.0.1 whats ++ coming s v t rows) (beside-itself row.1)
      ∙ none-coming rows found.1

  none-going : (rows : List ((Name × Name) × Frame)) → AreFound rows → going s v t rows ≡ []
  none-going [] found = refl
  none-going (row ∷ rows) found =
      ap (λ o. frame_edits s v row.0.1 (losses row.1 o) ++ going s v t rows) (same-found row found.0)
      ∙ ap (λ whats. frame_edits s v row.0.1 (map ending whats) ++ going s v t rows) (beside-itself row.1)
      ∙ none-going rows found.1

pub between-itself : (v : Name) (page : OwnRows) → edits_between v page page ≡ []
unfolding edits_between get
between-itself v page =
    let found = recursion_from_All _ page.frames.rows (rows-found owned page.frames.rows page.frames.sorted) in
    λ i. reverse (none-going page.supplier v page.frames page.frames.rows found i) ++ none-coming page.supplier v page.frames page.frames.rows found i
