-- What went out early is passed over, where it is what is written.
use Rattle.std.proofs.Common.{◌≡◌, ◌≤◌, ◌+◌, ℕ, Bool, true, false, List, ◌++◌, refl, sym, ap, ◌∙◌, take, drop, drop-drop, take-append-drop}
use Rattle.std.specs.Prelude.{not}
use Rattle.std.proofs.lemmas.List.{drop-take, take-take}

pub is_true : (b : Bool) → not b ≡ false → b ≡ true
is_true true e = refl
is_true false e = absurd (cc)

-- a piece of the front stands before the rest of it
pub passes_front : (whole : List ℕ) (ahead passed n : ℕ) (piece : List ℕ) → passed + n ≤ ahead → take n (drop passed whole) ≡ piece
    → drop passed (take ahead whole) ≡ piece ++ drop (passed + n) (take ahead whole)
passes_front whole ahead passed n piece within same =
    let rest = take ahead whole in
    let front : take n (drop passed rest) ≡ take n (drop passed whole) =
    sym (drop-take passed n rest) ∙ ap (drop passed) (take-take (passed + n) ahead whole within) ∙ drop-take passed n whole in
    sym (take-append-drop n (drop passed rest)) ∙ ap (λ t. t ++ drop n (drop passed rest)) (front ∙ same) ∙ ap (λ t. piece ++ t) (drop-drop n passed rest)
