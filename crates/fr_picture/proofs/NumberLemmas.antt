-- Rows with their numbers, from 1 on, and one more.
use Rattle.std.proofs.Common.{◌≡◌, ℕ, ◌+◌, ◌<◌, List, [], ◌∷◌, ◌++◌, length, get_or, take, map, sym, ap, ◌∙◌, append_assoc, append-nil, arith, length-take-le}
use Rattle.std.specs.List.{enumerate_from, flat_map}
use Rattle.std.proofs.lemmas.Grind.{flat_map-append}
use Rattle.std.proofs.lemmas.List.{map-append, take_more}

enumerate-push : {X : Type 0} (n : ℕ) (xs : List X) (x : X) → enumerate_from n (xs ++ x ∷ []) ≡ enumerate_from n xs ++ (n + length xs, x) ∷ []
enumerate-push n [] x =
    let here : n ≡ n + 0 = omega arith in
    ap (λ k. (k, x) ∷ []) here
enumerate-push n (y ∷ xs) x =
    let next : n + 1 + length xs ≡ n + length (y ∷ xs) = omega arith in
    ap (λ t. (n, y) ∷ t) (enumerate-push (n + 1) xs x ∙ ap (λ k. enumerate_from (n + 1) xs ++ (k, x) ∷ []) next)

-- the rows up to here, and this one
numbered_more : {X : Type 0} (n : ℕ) (xs : List X) (i m : ℕ) (x : X) → m ≡ n + i → i < length xs → x ≡ get_or xs i x
    → enumerate_from n (take (i + 1) xs) ≡ enumerate_from n (take i xs) ++ (m, x) ∷ []
numbered_more n xs i m x is small read =
    let count : length (take i xs) ≡ i = length-take-le i xs (omega (arith, small)) in
    let at : n + length (take i xs) ≡ m = omega (arith, count, is) in
    ap (enumerate_from n) (take_more xs i x small ∙ ap (λ y. take i xs ++ y ∷ []) (sym read)) ∙ enumerate-push n (take i xs) x
    ∙ ap (λ k. enumerate_from n (take i xs) ++ (k, x) ∷ []) at

-- what was put behind the text so far, and one row more
pub text_step_from : {X : Type 0} (n : ℕ) (f : ℕ → X → List ℕ) (xs : List X) (i m : ℕ) (x : X) (old front new : List ℕ) → m ≡ n + i → i < length xs → x ≡ get_or xs i x
    → front ≡ old ++ flat_map (λ p. f p.0 p.1) (enumerate_from n (take i xs)) → new ≡ front ++ f m x
    → new ≡ old ++ flat_map (λ p. f p.0 p.1) (enumerate_from n (take (i + 1) xs))
text_step_from n f xs i m x old front new is small read before after =
    let whole = flat_map (λ p. f p.0 p.1) in
    let rows = enumerate_from n (take i xs) in
    after ∙ ap (λ t. t ++ f m x) before ∙ append_assoc old (whole rows) (f m x)
    ∙ ap (λ t. old ++ t) (sym (ap whole (numbered_more n xs i m x is small read) ∙ flat_map-append (λ p. f p.0 p.1) rows ((m, x) ∷ [])
    ∙ ap (λ t. whole rows ++ t) (append-nil (f m x))))

pub text_step : {X : Type 0} (f : ℕ → X → List ℕ) (xs : List X) (i : ℕ) (x : X) (old front new : List ℕ) → i < length xs → x ≡ get_or xs i x
    → front ≡ old ++ flat_map (λ p. f p.0 p.1) (enumerate_from 1 (take i xs)) → new ≡ front ++ f (i + 1) x
    → new ≡ old ++ flat_map (λ p. f p.0 p.1) (enumerate_from 1 (take (i + 1) xs))
text_step f xs i x old front new small read before after =
    text_step_from 1 f xs i (i + 1) x old front new (let at : i + 1 ≡ 1 + i = omega arith in at) small read before after

-- what was made of the rows so far, and of one more
pub row_step : {X Y : Type 0} (f : ℕ → X → Y) (xs : List X) (i : ℕ) (x : X) (y : Y) (old new : List Y) → i < length xs → x ≡ get_or xs i x → y ≡ f (i + 1) x
    → old ≡ map (λ p. f p.0 p.1) (enumerate_from 1 (take i xs)) → new ≡ old ++ y ∷ []
    → new ≡ map (λ p. f p.0 p.1) (enumerate_from 1 (take (i + 1) xs))
row_step f xs i x y old new small read made before after =
    after ∙ ap (λ t. t ++ y ∷ []) before ∙ ap (λ z. map (λ p. f p.0 p.1) (enumerate_from 1 (take i xs)) ++ z ∷ []) made
    ∙ sym (ap (map (λ p. f p.0 p.1)) (numbered_more 1 xs i (i + 1) x (let at : i + 1 ≡ 1 + i = omega arith in at) small read) ∙ map-append (λ p. f p.0 p.1) (enumerate_from 1 (take i xs)) ((i + 1, x) ∷ []))
