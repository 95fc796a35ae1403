-- A buffer that grows at its end, and the numbers that are put there.
use Rattle.std.proofs.Common.{◌≡◌, ℕ, ◌+◌, ◌-◌, ◌/◌, ◌%◌, ◌<◌, ◌≤◌, ◌^◌, List, [], ◌∷◌, ◌++◌, length, refl, sym, append_assoc, append-nil, length-append, ap, ◌∙◌, arith}
use Rattle.std.specs.Prelude.{decimal, replicate}
use Rattle.std.proofs.lemmas.Fmt.{decimal_digit, decimal_step}
use Rattle.fr_text.specs.Words.{right_in, Extends}

pub Extends-itself : (old : List ℕ) → Extends old old
Extends-itself old = ([], sym (append-nil old))

pub Extends-append : (old more : List ℕ) → Extends old (old ++ more)
Extends-append old more = (more, refl)

-- what is behind a longer front is behind the front
pub Extends-later : (old more new : List ℕ) → Extends (old ++ more) new → Extends old new
Extends-later old more new h = (more ++ h.0, h.1 ∙ append_assoc old more h.0)

-- more at the end, and then more again
pub Extends-trans : (old mid new : List ℕ) → Extends old mid → Extends mid new → Extends old new
Extends-trans old mid new h k = (h.0 ++ k.0, k.1 ∙ ap (λ front. front ++ k.0) h.1 ∙ append_assoc old h.0 k.0)

pub ruleset extending = (Extends-itself, Extends-append, Extends-later, Extends-trans)

-- one text at the end, and then another
pub adds : (old a mid b new : List ℕ) → mid ≡ old ++ a → new ≡ mid ++ b → new ≡ old ++ (a ++ b)
adds old a mid b new first then = then ∙ ap (λ front. front ++ b) first ∙ append_assoc old a b

-- a number's last digit goes behind the others, which have a place less
pub right-more : (number places : ℕ) (old front new : List ℕ) → 10 ≤ number → number < 2 ^ 32
    → front ≡ old ++ right_in (places - 1) (decimal (number / 10)) → new ≡ front ++ (48 + number % 10) ∷ []
    → new ≡ old ++ right_in places (decimal number)
unfolding right_in
right-more number places old front new large fits before last =
    let digits : decimal number ≡ decimal (number / 10) ++ (48 + number % 10) ∷ [] = decimal_step number large (omega arith) in
    let count : length (decimal number) ≡ length (decimal (number / 10)) + 1 = ap length digits ∙ length-append (decimal (number / 10)) _ in
    let room : places - 1 - length (decimal (number / 10)) ≡ places - length (decimal number) = omega (arith, count) in
    last ∙ ap (λ f. f ++ (48 + number % 10) ∷ []) before ∙ append_assoc old _ _
    ∙ ap (λ more. old ++ more) (append_assoc (replicate (places - 1 - length (decimal (number / 10))) 32) (decimal (number / 10)) _)
    ∙ ap (λ more. old ++ (replicate (places - 1 - length (decimal (number / 10))) 32 ++ more)) (sym digits)
    ∙ ap (λ n. old ++ (replicate n 32 ++ decimal number)) room

-- a number below ten is one digit
pub right-one : (number places : ℕ) (old front new : List ℕ) → number < 10 → front ≡ old ++ replicate (places - 1) 32
    → new ≡ front ++ (48 + number % 10) ∷ [] → new ≡ old ++ right_in places (decimal number)
unfolding right_in
right-one number places old front new small before last =
    let digit : number % 10 ≡ number = omega arith in
    let digits : decimal number ≡ (48 + number) ∷ [] = decimal_digit number small in
    last ∙ ap (λ d. front ++ (48 + d) ∷ []) digit ∙ ap (λ f. f ++ (48 + number) ∷ []) before ∙ append_assoc old _ _
    ∙ ap (λ text. old ++ (replicate (places - length text) 32 ++ text)) (sym digits)
