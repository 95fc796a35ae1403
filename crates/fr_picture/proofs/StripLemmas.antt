-- Strips of bits: which row is next.
use Rattle.std.proofs.Common.{◌≡◌, ℕ, ◌+◌, ◌<◌, Bool, not, true, List, [], ◌∷◌, ◌++◌, length, get_or, take, refl, sym, ap, ◌∙◌, append_assoc, append-nil}
use Rattle.std.proofs.lemmas.List.{take_more}
use Rattle.fr_picture.specs.declared.signals.DrawnSignal.{DrawnSignal}
use Rattle.fr_picture.specs.declared.signals.Run.{Run}
use Rattle.fr_picture.specs.Strips.{bars_text, row_of, runs_text}

-- the row of the signal behind these
unfoldable pub row_after : Bool → List DrawnSignal → Bool
row_after upper [] = upper
row_after upper (s ∷ signals) = row_after (not upper) signals

row_push : (upper : Bool) (signals : List DrawnSignal) (s : DrawnSignal) → row_after upper (signals ++ s ∷ []) ≡ not (row_after upper signals)
unfolding row_after
row_push upper [] s = refl
row_push upper (r ∷ signals) s = row_push (not upper) signals s

bars_push : (upper : Bool) (signals : List DrawnSignal) (s : DrawnSignal)
    → bars_text upper (signals ++ s ∷ []) ≡ bars_text upper signals ++ runs_text (row_of (row_after upper signals)) s.runs.items
unfolding row_after bars_text
bars_push upper [] s = append-nil (runs_text (row_of upper) s.runs.items)
bars_push upper (r ∷ signals) s =
    ap (λ t. runs_text (row_of upper) r.runs.items ++ t) (bars_push (not upper) signals s)
    ∙ sym (append_assoc (runs_text (row_of upper) r.runs.items) (bars_text (not upper) signals) (runs_text (row_of (row_after (not upper) signals)) s.runs.items))

-- a loop's step: the signals so far, and one more
pub row_none : (signals : List DrawnSignal) → row_after true (take 0 signals) ≡ true
unfolding row_after
row_none signals = refl

pub bars_none : (signals : List DrawnSignal) → bars_text true (take 0 signals) ≡ []
unfolding bars_text
bars_none signals = refl

one_more : (signals : List DrawnSignal) (i : ℕ) (s : DrawnSignal) → i < length signals → s ≡ get_or signals i s → take (i + 1) signals ≡ take i signals ++ s ∷ []
one_more signals i s small read = take_more signals i s small ∙ ap (λ x. take i signals ++ x ∷ []) (sym read)

pub row_step : (signals : List DrawnSignal) (i : ℕ) (s : DrawnSignal) (upper : Bool) → i < length signals → s ≡ get_or signals i s → upper ≡ row_after true (take i signals)
    → not upper ≡ row_after true (take (i + 1) signals)
row_step signals i s upper small read row =
    ap not row ∙ sym (ap (row_after true) (one_more signals i s small read) ∙ row_push true (take i signals) s)

pub bars_first : (signals : List DrawnSignal) (old : List ℕ) → old ≡ old ++ bars_text true (take 0 signals)
bars_first signals old = sym (ap (λ t. old ++ t) (bars_none signals) ∙ append-nil old)

pub bars_step : (signals : List DrawnSignal) (i : ℕ) (s : DrawnSignal) (upper : Bool) (row : ℕ) (runs : List Run) (old front new : List ℕ)
    → i < length signals → s ≡ get_or signals i s → upper ≡ row_after true (take i signals) → row ≡ row_of upper → runs ≡ s.runs.items
    → front ≡ old ++ bars_text true (take i signals) → new ≡ front ++ runs_text row runs → new ≡ old ++ bars_text true (take (i + 1) signals)
bars_step signals i s upper row runs old front new small read at stands has before after =
    let so_far = bars_text true (take i signals) in
    let piece = runs_text (row_of (row_after true (take i signals))) s.runs.items in
    after ∙ ap (λ t. t ++ runs_text row runs) before ∙ append_assoc old so_far (runs_text row runs)
    ∙ ap (λ n. old ++ (so_far ++ runs_text n runs)) (stands ∙ ap row_of at) ∙ ap (λ rs. old ++ (so_far ++ runs_text (row_of (row_after true (take i signals))) rs)) has
    ∙ sym (ap (λ t. old ++ t) (ap (bars_text true) (one_more signals i s small read) ∙ bars_push true (take i signals) s))
