-- Laws of the elements that fields list.
use Rattle.std.proofs.Common.{◌≡◌, ◌≢◌, ℕ, zero, suc, ◌<◌, cond, Bool, true, false, List, [], ◌∷◌, ◌++◌, length, take, drop, map, get_or, refl, sym, ap, ◌∙◌, arith, eq-eqb, ne_eqb}
use Rattle.std.specs.List.{flat_map, list_any, onto_first, slice_split}
use Rattle.std.specs.Prelude.{◌==◌, ◌||◌}
use Rattle.httparse.specs.Grammar.{trim_ows}
use Rattle.fr_http.specs.Conditions.{elements, lists, means, without_weakness}

abbrev split : List ℕ → List (List ℕ)
split value = slice_split (λ b. b == 44) value

-- the first element ends at the first comma
split_at : (xs : List ℕ) (i : ℕ) → i < length xs → get_or xs i 0 ≡ 44 → ((k : ℕ) → k < i → get_or xs k 0 ≢ 44) → split xs ≡ take i xs ∷ split (drop (suc i) xs)
split_at [] i inside comma before = absurd (omega arith)
split_at (b ∷ bs) zero inside comma before = ap (λ t. cond t ([] ∷ split bs) (onto_first b (split bs))) (eq-eqb b 44 comma)
split_at (b ∷ bs) (suc i) inside comma before =
    ap (λ t. cond t ([] ∷ split bs) (onto_first b (split bs))) (ne_eqb b 44 (before 0 (omega arith)))
    ∙ ap (onto_first b) (split_at bs i (omega arith) comma (λ k below. before (suc k) (omega arith)))

split_whole : (xs : List ℕ) → ((k : ℕ) → k < length xs → get_or xs k 0 ≢ 44) → split xs ≡ xs ∷ []
split_whole [] none = refl
split_whole (b ∷ bs) none =
    ap (λ t. cond t ([] ∷ split bs) (onto_first b (split bs))) (ne_eqb b 44 (none 0 (omega arith)))
    ∙ ap (onto_first b) (split_whole bs (λ k below. none (suc k) (omega arith)))

pub elements_at : (xs : List ℕ) (i : ℕ) → i < length xs → get_or xs i 0 ≡ 44 → ((k : ℕ) → k < i → get_or xs k 0 ≢ 44) → elements xs ≡ trim_ows (take i xs) ∷ elements (drop (suc i) xs)
unfolding elements
elements_at xs i inside comma before = ap (map trim_ows) (split_at xs i inside comma before)

pub elements_whole : (xs : List ℕ) → ((k : ℕ) → k < length xs → get_or xs k 0 ≢ 44) → elements xs ≡ trim_ows xs ∷ []
unfolding elements
elements_whole xs none = ap (map trim_ows) (split_whole xs none)

or_behind : (a b c : Bool) → (a || (b || c)) ≡ ((a || b) || c)
or_behind true b c = refl
or_behind false b c = refl

any_append : (test : List ℕ → Bool) (xs ys : List (List ℕ)) → list_any test (xs ++ ys) ≡ (list_any test xs || list_any test ys)
any_append test [] ys = refl
any_append test (x ∷ xs) ys = ap (λ t. test x || t) (any_append test xs ys) ∙ or_behind (test x) (list_any test xs) (list_any test ys)

-- the elements of the first value, and those of the others
first_lists : (tag value : List ℕ) (all left : List (List ℕ)) → all ≡ value ∷ left
    → lists without_weakness tag all ≡ (list_any (means without_weakness tag) (elements value) || lists without_weakness tag left)
first_lists tag value all left first = ap (lists without_weakness tag) first ∙ any_append (means without_weakness tag) (elements value) (flat_map elements left)

pub lists_here : (tag value : List ℕ) (all left : List (List ℕ)) → all ≡ value ∷ left → true ≡ list_any (means without_weakness tag) (elements value) → lists without_weakness tag all ≡ true
lists_here tag value all left first is = first_lists tag value all left first ∙ ap (λ t. t || lists without_weakness tag left) (sym is)

pub lists_later : (tag value : List ℕ) (all left : List (List ℕ)) → all ≡ value ∷ left → false ≡ list_any (means without_weakness tag) (elements value)
    → lists without_weakness tag all ≡ lists without_weakness tag left
lists_later tag value all left first is = first_lists tag value all left first ∙ ap (λ t. t || lists without_weakness tag left) (sym is)

pub ruleset listing = (lists_here, lists_later)
