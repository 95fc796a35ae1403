-- Bytes that end with a line feed: their lines come first, and then those of what follows.
use Rattle.std.proofs.Common.{◌≡◌, ℕ, ◌<◌, List, [], ◌∷◌, ◌++◌, length, map, refl, sym, ap, ◌∙◌, arith, inl, inr, append_assoc, append-nil}
use Rattle.std.specs.Prelude.{◌==◌}
use Rattle.std.specs.List.{slice_split, onto_first}
use Rattle.std.specs.Str.Lines.{lines, lines_of_parts, strip_carriage_return}
use Rattle.std.proofs.lemmas.Bool.{cases_Bool}
use Rattle.std.proofs.lemmas.List.Splits.{length-slice_split}

onto_first-append : (b : ℕ) (xs ys : List (List ℕ)) → 0 < length xs → onto_first b (xs ++ ys) ≡ onto_first b xs ++ ys
onto_first-append b [] ys h = absurd (omega (arith, h))
onto_first-append b (x ∷ xs) ys h = refl

some_part : (x : List ℕ) → 0 < length (slice_split (λ b. b == 10) x)
some_part x = omega (arith, length-slice_split (λ b. b == 10) x)

split-append : (x more : List ℕ) → slice_split (λ b. b == 10) (x ++ 10 ∷ more) ≡ slice_split (λ b. b == 10) x ++ slice_split (λ b. b == 10) more
split-append [] more = refl
split-append (b ∷ x) more = elim (cases_Bool (b == 10)) [
  | inl h ↦ rw h (ap (λ l. [] ∷ l) (split-append x more))
  | inr h ↦ rw h (ap (onto_first b) (split-append x more) ∙ onto_first-append b (slice_split (λ b. b == 10) x) (slice_split (λ b. b == 10) more) (some_part x))
]

parts-append : (xs ys : List (List ℕ)) → 0 < length ys → lines_of_parts (xs ++ ys) ≡ map strip_carriage_return xs ++ lines_of_parts ys
parts-append [] ys h = refl
parts-append (x ∷ []) [] h = absurd (omega (arith, h))
parts-append (x ∷ []) (y ∷ ys) h = refl
parts-append (x ∷ z ∷ xs) ys h = ap (λ l. strip_carriage_return x ∷ l) (parts-append (z ∷ xs) ys h)

lines-ended : (x more : List ℕ) → lines (x ++ 10 ∷ more) ≡ map strip_carriage_return (slice_split (λ b. b == 10) x) ++ lines more
lines-ended x more = ap lines_of_parts (split-append x more) ∙ parts-append (slice_split (λ b. b == 10) x) (slice_split (λ b. b == 10) more) (some_part more)

-- what follows a line feed has its own lines
lines-append : (x more : List ℕ) → lines (x ++ 10 ∷ more) ≡ lines (x ++ 10 ∷ []) ++ lines more
lines-append x more = lines-ended x more ∙ ap (λ l. l ++ lines more) (sym (lines-ended x [] ∙ append-nil (map strip_carriage_return (slice_split (λ b. b == 10) x))))

-- so also what follows bytes that end with one
pub ended-append : (x more : List ℕ) → lines ((x ++ 10 ∷ []) ++ more) ≡ lines (x ++ 10 ∷ []) ++ lines more
ended-append x more = ap lines (append_assoc x (10 ∷ []) more) ∙ lines-append x more
