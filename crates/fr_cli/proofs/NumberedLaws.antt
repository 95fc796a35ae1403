-- Lines with their numbers: those of a text and of what follows it, and the text of their answers.
use Rattle.std.proofs.Common.{◌≡◌, ◌∙◌, inl, inr, ℕ, ◌+◌, ◌<◌, Bool, true, false, cond, List, [], ◌∷◌, ◌++◌, length, refl, sym, ap, append_assoc, append-nil, arith}
use Rattle.std.proofs.lemmas.Bool.{cases_Bool, le-ltb, lt-ltb}
use Rattle.std.proofs.lemmas.Grind.{flat_map-append}
use Rattle.std.specs.List.{filter}
use Rattle.std.specs.Prelude.{nat_lt}
use Rattle.std.specs.Str.Lines.{lines}
use Rattle.fr_base.specs.declared.answer.Answer.{Answer}
use Rattle.fr_text.specs.Script.{request_lines}
use Rattle.fr_cli.specs.Numbered.{answers_text, front_of, number_from, numbered_lines, numbered_text, without_numbers}
use Rattle.fr_cli.specs.Outcomes.{line_of}
use Rattle.fr_cli.specs.RequestStream.{EndsLines}

-- ---- lines

number_from-append : (n : ℕ) (xs ys : List (List ℕ)) → number_from n (xs ++ ys) ≡ number_from n xs ++ number_from (n + length xs) ys
number_from-append n [] ys =
    let same : n ≡ n + 0 = omega arith in
    ap (λ (m : ℕ). number_from m ys) same
number_from-append n (x ∷ xs) ys =
    let count : (n + 1) + length xs ≡ n + length (x ∷ xs) = omega arith in
    let rest = number_from-append (n + 1) xs ys ∙ ap (λ (m : ℕ). number_from (n + 1) xs ++ number_from m ys) count in
    elim (cases_Bool (nat_lt 0 (length x))) [
      | inl some ↦ rw some (ap (λ l. (n, x) ∷ l) rest)
      | inr none ↦ rw none rest
    ]

number_from-lines : (n : ℕ) (xs : List (List ℕ)) → without_numbers (number_from n xs) ≡ filter (λ line. nat_lt 0 (length line)) xs
number_from-lines n [] = refl
number_from-lines n (x ∷ xs) = elim (cases_Bool (nat_lt 0 (length x))) [
  | inl some ↦ rw some (ap (λ l. x ∷ l) (number_from-lines (n + 1) xs))
  | inr none ↦ rw none (number_from-lines (n + 1) xs)
]

-- they are the requests
pub numbered-requests : (n : ℕ) (bytes : List ℕ) → without_numbers (numbered_lines n bytes) ≡ request_lines bytes
unfolding numbered_lines request_lines
numbered-requests n bytes = number_from-lines n (lines bytes)

pub numbered-none : (n : ℕ) (bytes : List ℕ) → bytes ≡ [] → numbered_lines n bytes ≡ []
unfolding numbered_lines
numbered-none n bytes e = ap (λ l. number_from n (lines l)) e

-- what follows whole lines has the numbers behind theirs
pub numbered-append : (n : ℕ) (front more : List ℕ) → EndsLines front → numbered_lines n (front ++ more) ≡ numbered_lines n front ++ numbered_lines (n + length (lines front)) more
unfolding numbered_lines
numbered-append n front more ends = ap (number_from n) (ends more) ∙ number_from-append n (lines front) (lines more)

numbered-first : (n : ℕ) (bytes line after : List ℕ) → lines bytes ≡ line ∷ lines after
    → numbered_lines n bytes ≡ cond (nat_lt 0 (length line)) ((n, line) ∷ numbered_lines (n + 1) after) (numbered_lines (n + 1) after)
unfolding numbered_lines
numbered-first n bytes line after e = ap (number_from n) e

-- a line that is not empty is the first request
pub numbered-some : (n : ℕ) (bytes line after : List ℕ) → lines bytes ≡ line ∷ lines after → 0 < length line → numbered_lines n bytes ≡ (n, line) ∷ numbered_lines (n + 1) after
numbered-some n bytes line after e h = numbered-first n bytes line after e ∙ rw (lt-ltb 0 (length line) h) refl

-- an empty line is passed over
pub numbered-empty : (n : ℕ) (bytes line after : List ℕ) → lines bytes ≡ line ∷ lines after → length line ≡ 0 → numbered_lines n bytes ≡ numbered_lines (n + 1) after
numbered-empty n bytes line after e h = numbered-first n bytes line after e ∙ rw (le-ltb 0 (length line) (omega (arith, h))) refl

-- ---- the text of answers

pub text-append : (numbered : Bool) (l m : List (ℕ × List ℕ)) (xs ys : List Answer) → length xs ≡ length l
    → answers_text numbered (l ++ m) (xs ++ ys) ≡ answers_text numbered l xs ++ answers_text numbered m ys
text-append false l m xs ys same = flat_map-append line_of xs ys
text-append true [] m [] ys same = refl
text-append true [] m (x ∷ xs) ys same = absurd cc
text-append true (one ∷ l) m [] ys same = absurd cc
text-append true (one ∷ l) m (x ∷ xs) ys same =
    ap (λ t. (front_of true one.0 ++ line_of x) ++ t) (text-append true l m xs ys (omega (arith, same)))
    ∙ sym (append_assoc (front_of true one.0 ++ line_of x) (numbered_text l xs) (numbered_text m ys))

pub text-none : (numbered : Bool) → [] ≡ answers_text numbered [] []
text-none true = refl
text-none false = refl

-- of one line
pub text-one : (numbered : Bool) (n : ℕ) (line : List ℕ) (answer : Answer) → answers_text numbered ((n, line) ∷ []) (answer ∷ []) ≡ front_of numbered n ++ line_of answer
text-one true n line answer = append-nil (front_of true n ++ line_of answer)
text-one false n line answer = append-nil (line_of answer)

-- lines without an answer have no text
pub text-behind : (l m : List (ℕ × List ℕ)) (xs : List Answer) → length xs ≡ length l → numbered_text (l ++ m) xs ≡ numbered_text l xs
text-behind [] [] [] same = refl
text-behind [] (one ∷ m) [] same = refl
text-behind [] m (x ∷ xs) same = absurd cc
text-behind (one ∷ l) m [] same = refl
text-behind (one ∷ l) m (x ∷ xs) same = ap (λ t. (front_of true one.0 ++ line_of x) ++ t) (text-behind l m xs (omega (arith, same)))
