-- The signals of a frame that another has not: taken away one after another, and put back. What is left of each is what both have.
use Rattle.std.proofs.Common.{◌≡◌, ◌≢◌, ℕ, ◌<◌, ◌⊎◌, ◌||◌, IsTrue, Bool, true, false, not, cond, All, AllPairs, List, [], ◌∷◌, filter, refl, sym, ap, subst, ◌∙◌, inl, inr, arith, true≢false, ltb}
use Rattle.std.specs.List.{AllByRecursion, list_any}
use Rattle.std.proofs.lemmas.Bool.{cases_Bool, cases_order}
use Rattle.std.proofs.lemmas.Bool.Decides.{nat_tests}
use Rattle.std.proofs.lemmas.List.Elements.{All-filter, All-head, recursion_from_All}
use Rattle.std.proofs.lemmas.List.Kept.{AllPairs-cons, AllPairs-filter}
use Rattle.fr_base.specs.Differences.{same_signal}
use Rattle.fr_base.specs.Layouts.{has_signal, with_signal, without_signal}
use Rattle.fr_base.specs.Names.{same_text}
use Rattle.fr_base.specs.Signals.{SignalData}
use Rattle.fr_base.proofs.AloneCells.{same_text-itself}
use Rattle.fr_base.proofs.DifferenceLaws.{signal-exact, signal-itself}
use Rattle.fr_base.proofs.LayoutLaws.{AllPairs-head, AllPairs-tail, Rises}
use Rattle.fr_base.proofs.SoundRows.{same_text-is}
use Rattle.fr_world.proofs.FreeingLaws.{Differ, first-dropped}

-- The signal is one of the list.
abbrev pub IsIn : SignalData → List SignalData → Type 0
IsIn s [] = ⊥
IsIn s (x ∷ xs) = (x ≡ s) ⊎ IsIn s xs

-- the signals without those of the names of others, of which the first goes last
abbrev pub stripped : List SignalData → List SignalData → List SignalData
stripped [] xs = xs
stripped (s ∷ ss) xs = without_signal s.name (stripped ss xs)

pub other_text : (a b : List ℕ) → a ≢ b → same_text a b ≡ false
other_text a b other = elim (cases_Bool (same_text a b)) [ inl same ↦ absurd (other (same_text-is a b same)) | inr apart ↦ apart ]

-- what holds of all signals of a list holds of one of them
in-all : (P : SignalData → Type 0) (s : SignalData) (xs : List SignalData) → AllByRecursion P xs → IsIn s xs → P s
in-all P s [] all there = absurd there
in-all P s (x ∷ xs) all (inl same) = subst P same all.0
in-all P s (x ∷ xs) all (inr more) = in-all P s xs all.1 more

-- a signal of the list has its name in it
pub has-in : (s : SignalData) (xs : List SignalData) → IsIn s xs → IsTrue (has_signal xs s.name)
has-in s [] there = absurd there
has-in s (x ∷ xs) (inl same) = ap (λ b. b || has_signal xs s.name) (ap (λ (y : SignalData). same_text y.name s.name) same ∙ same_text-itself s.name)
has-in s (x ∷ xs) (inr more) = by (same_text x.name s.name) (has-in s xs more)
  where
    by : (b : Bool) → has_signal xs s.name ≡ true → (b || has_signal xs s.name) ≡ true
    by true h = refl
    by false h = h

-- ---- signals are taken away

in-without : (s : SignalData) (name : List ℕ) (xs : List SignalData) → s.name ≢ name → IsIn s xs → IsIn s (without_signal name xs)
in-without s name [] other there = there
in-without s name (x ∷ xs) other (inl same) =
    let left = without_signal name xs in
    let stays : same_text x.name name ≡ false = ap (λ (y : SignalData). same_text y.name name) same ∙ other_text s.name name other in
    subst (λ b. IsIn s (cond (not b) (x ∷ left) left)) (sym stays) (inl same)
in-without s name (x ∷ xs) other (inr more) = by (same_text x.name name) (in-without s name xs other more)
  where
    by : (b : Bool) → IsIn s (without_signal name xs) → IsIn s (cond (not b) (x ∷ without_signal name xs) (without_signal name xs))
    by true left = left
    by false left = inr left

-- a signal of another name stays
pub in-stripped : (s : SignalData) (ss xs : List SignalData) → AllByRecursion (Differ s) ss → IsIn s xs → IsIn s (stripped ss xs)
in-stripped s [] xs apart there = there
in-stripped s (t ∷ ss) xs apart there = in-without s t.name (stripped ss xs) apart.0 (in-stripped s ss xs apart.1 there)

pub pairs-stripped : (R : SignalData → SignalData → Type 0) (ss xs : List SignalData) → AllPairs R xs → AllPairs R (stripped ss xs)
pairs-stripped R [] xs pairs = pairs
pairs-stripped R (s ∷ ss) xs pairs = AllPairs-filter R (λ x. not (same_text x.name s.name)) (stripped ss xs) (pairs-stripped R ss xs pairs)

stripped-first : (x : SignalData) (xs ss : List SignalData) → AllByRecursion (Differ x) ss → stripped ss (x ∷ xs) ≡ x ∷ stripped ss xs
stripped-first x xs [] apart = refl
stripped-first x xs (s ∷ ss) apart =
    let left = without_signal s.name (stripped ss xs) in
    ap (without_signal s.name) (stripped-first x xs ss apart.1)
    ∙ ap (λ b. cond (not b) (x ∷ left) left) (other_text x.name s.name apart.0)

module _ (p : SignalData → Bool) (x : SignalData) (xs : List SignalData) (pairs : AllPairs Differ (x ∷ xs)) (rest : stripped (filter (λ x. not (p x)) xs) xs ≡ filter p xs) where
  abbrev lost : List SignalData
  lost = filter (λ x. not (p x)) xs

  first-left : stripped lost (x ∷ xs) ≡ x ∷ filter p xs
  first-left =
      stripped-first x xs lost (recursion_from_All (Differ x) lost (All-filter (λ x. not (p x)) (Differ x) xs (AllPairs-head Differ x xs pairs)))
      ∙ ap (λ l. x ∷ l) rest

  first-apart : AllPairs Differ (x ∷ filter p xs)
  first-apart = AllPairs-cons Differ x (filter p xs) (All-filter p (Differ x) xs (AllPairs-head Differ x xs pairs)) (AllPairs-filter Differ p xs (AllPairs-tail Differ x xs pairs))

  first-tested : (b : Bool) → stripped (cond (not b) (x ∷ lost) lost) (x ∷ xs) ≡ cond b (x ∷ filter p xs) (filter p xs)
  first-tested true = first-left
  first-tested false = ap (without_signal x.name) first-left ∙ first-dropped x (filter p xs) first-apart

-- where all that fail a test are taken away, those that pass are left
pub stripped-filter : (p : SignalData → Bool) (xs : List SignalData) → AllPairs Differ xs → stripped (filter (λ x. not (p x)) xs) xs ≡ filter p xs
stripped-filter p [] pairs = refl
stripped-filter p (x ∷ xs) pairs = first-tested p x xs pairs (stripped-filter p xs (AllPairs-tail Differ x xs pairs)) (p x)

-- none of the name is left
pub lacks-dropped : (name : List ℕ) (xs : List SignalData) → has_signal (without_signal name xs) name ≡ false
lacks-dropped name [] = refl
lacks-dropped name (x ∷ xs) = by (same_text x.name name) refl (lacks-dropped name xs)
  where
    by : (b : Bool) → same_text x.name name ≡ b → has_signal (without_signal name xs) name ≡ false →
        has_signal (cond (not b) (x ∷ without_signal name xs) (without_signal name xs)) name ≡ false
    by true is rest = rest
    by false is rest = ap (λ b. b || has_signal (without_signal name xs) name) is ∙ rest

-- ---- and put back

front : (x : SignalData) (xs : List SignalData) → All (Rises x) xs → with_signal x xs ≡ x ∷ xs
front x [] rises = refl
front x (y ∷ ys) rises =
    let below : x.start < y.start = All-head (Rises x) y ys rises in
    let is : ltb x.start y.start ≡ true = grind (arith, nat_tests) in
    ap (λ b. cond b (x ∷ y ∷ ys) (y ∷ with_signal x ys)) is

pub put-back : (s : SignalData) (xs : List SignalData) → AllPairs Rises xs → AllPairs Differ xs → IsIn s xs → with_signal s (without_signal s.name xs) ≡ xs
put-back s [] rises pairs there = absurd there
put-back s (x ∷ xs) rises pairs (inl same) =
    subst (λ t. with_signal t (without_signal t.name (x ∷ xs)) ≡ x ∷ xs) same
    (ap (with_signal x) (first-dropped x xs pairs) ∙ front x xs (AllPairs-head Rises x xs rises))
put-back s (x ∷ xs) rises pairs (inr more) =
    let left = without_signal s.name xs in
    let other : x.name ≢ s.name = in-all (Differ x) s xs (recursion_from_All (Differ x) xs (AllPairs-head Differ x xs pairs)) more in
    let below : x.start < s.start = in-all (Rises x) s xs (recursion_from_All (Rises x) xs (AllPairs-head Rises x xs rises)) more in
    let later : ltb s.start x.start ≡ false = grind (arith, nat_tests) in
    ap (λ b. with_signal s (cond (not b) (x ∷ left) left)) (other_text x.name s.name other)
    ∙ ap (λ b. cond b (s ∷ x ∷ left) (x ∷ with_signal s left)) later
    ∙ ap (λ l. x ∷ l) (put-back s xs (AllPairs-tail Rises x xs rises) (AllPairs-tail Differ x xs pairs) more)

-- ---- those that pass a test are of the list, and no two of them have one name

pub in-later : (x : SignalData) (xs ss : List SignalData) → AllByRecursion (λ s. IsIn s xs) ss → AllByRecursion (λ s. IsIn s (x ∷ xs)) ss
in-later x xs [] all = tt
in-later x xs (s ∷ ss) all = (inr all.0, in-later x xs ss all.1)

pub in-filter : (p : SignalData → Bool) (xs : List SignalData) → AllByRecursion (λ s. IsIn s xs) (filter p xs)
in-filter p [] = tt
in-filter p (x ∷ xs) = by (p x) (in-later x xs (filter p xs) (in-filter p xs))
  where
    by : (b : Bool) → AllByRecursion (λ s. IsIn s (x ∷ xs)) (filter p xs) → AllByRecursion (λ s. IsIn s (x ∷ xs)) (cond b (x ∷ filter p xs) (filter p xs))
    by true rest = (inl refl, rest)
    by false rest = rest

-- ---- what two lists have in common

abbrev pub is_in : List SignalData → SignalData → Bool
is_in xs s = list_any (same_signal s) xs

abbrev Starts : ℕ → SignalData → Type 0
Starts n s = n < s.start

other_signal : (s t : SignalData) → s.start ≢ t.start → same_signal s t ≡ false
other_signal s t other = elim (cases_Bool (same_signal s t)) [ inl same ↦ absurd (other (ap (λ (u : SignalData). u.start) (signal-exact s t same))) | inr apart ↦ apart ]

-- a signal is not among those that start after it
none_later : (s : SignalData) (n : ℕ) (xs : List SignalData) → s.start ≡ n → AllByRecursion (Starts n) xs → is_in xs s ≡ false
none_later s n [] is later = refl
none_later s n (x ∷ xs) is later =
    let above : n < x.start = later.0 in
    (λ i. other_signal s x (λ same. absurd (omega (arith, above, is, same))) i || none_later s n xs is later.1 i)

-- nor do they ask for it
skipped : (s : SignalData) (n : ℕ) (ss xs : List SignalData) → s.start ≡ n → AllByRecursion (Starts n) xs → filter (is_in (s ∷ ss)) xs ≡ filter (is_in ss) xs
skipped s n ss [] is later = refl
skipped s n ss (x ∷ xs) is later =
    let above : n < x.start = later.0 in
    ap (λ b. cond (b || is_in ss x) (x ∷ filter (is_in (s ∷ ss)) xs) (filter (is_in (s ∷ ss)) xs)) (other_signal x s (λ same. absurd (omega (arith, above, is, same))))
    ∙ ap (λ rest. cond (is_in ss x) (x ∷ rest) rest) (skipped s n ss xs is later.1)

pub none-kept : {X : Type 0} (xs : List X) → filter (λ x. false) xs ≡ []
none-kept [] = refl
none-kept (x ∷ xs) = none-kept xs

after : (x : SignalData) (xs : List SignalData) → AllPairs Rises (x ∷ xs) → AllByRecursion (Starts x.start) xs
after x xs rises = recursion_from_All (Starts x.start) xs (AllPairs-head Rises x xs rises)

sooner : (n m : ℕ) (xs : List SignalData) → n < m → AllByRecursion (Starts m) xs → AllByRecursion (Starts n) xs
sooner n m [] less all = tt
sooner n m (x ∷ xs) less all = let above : m < x.start = all.0 in (omega (arith, less, above), sooner n m xs less all.1)

-- the first signal of the one list starts before all of the other
first_alone : (x y : SignalData) (xs ys : List SignalData) → x.start < y.start → AllPairs Rises (y ∷ ys) → filter (is_in (y ∷ ys)) xs ≡ filter (is_in xs) (y ∷ ys) →
    filter (is_in (y ∷ ys)) (x ∷ xs) ≡ filter (is_in (x ∷ xs)) (y ∷ ys)
first_alone x y xs ys less rises rest =
    let later : AllByRecursion (Starts x.start) (y ∷ ys) = (less, sooner x.start y.start ys less (after y ys rises)) in
    ap (λ b. cond b (x ∷ filter (is_in (y ∷ ys)) xs) (filter (is_in (y ∷ ys)) xs)) (none_later x x.start (y ∷ ys) refl later)
    ∙ rest
    ∙ sym (skipped x x.start xs (y ∷ ys) refl later)

-- the first signals of both start together
first_both : (x y : SignalData) (xs ys : List SignalData) → x.start ≡ y.start → AllPairs Rises (x ∷ xs) → AllPairs Rises (y ∷ ys) → filter (is_in ys) xs ≡ filter (is_in xs) ys →
    filter (is_in (y ∷ ys)) (x ∷ xs) ≡ filter (is_in (x ∷ xs)) (y ∷ ys)
first_both x y xs ys same rises_x rises_y rest =
    one x y xs ys same rises_x rises_y ∙ by (same_signal x y) refl ∙ ap (λ l. cond (same_signal y x || false) (y ∷ l) l) rest ∙ sym (one y x ys xs (sym same) rises_y rises_x)
  where
    one : (x y : SignalData) (xs ys : List SignalData) → x.start ≡ y.start → AllPairs Rises (x ∷ xs) → AllPairs Rises (y ∷ ys) →
        filter (is_in (y ∷ ys)) (x ∷ xs) ≡ cond (same_signal x y || false) (x ∷ filter (is_in ys) xs) (filter (is_in ys) xs)
    one x y xs ys same rises_x rises_y =
        ap (λ b. cond (same_signal x y || b) (x ∷ filter (is_in (y ∷ ys)) xs) (filter (is_in (y ∷ ys)) xs)) (none_later x y.start ys same (after y ys rises_y))
        ∙ ap (λ l. cond (same_signal x y || false) (x ∷ l) l) (skipped y x.start ys xs (sym same) (after x xs rises_x))

    kept : List SignalData
    kept = filter (is_in ys) xs

    by : (b : Bool) → same_signal x y ≡ b → cond (same_signal x y || false) (x ∷ kept) kept ≡ cond (same_signal y x || false) (y ∷ kept) kept
    by true is =
        let equals : x ≡ y = signal-exact x y is in
        subst (λ z. cond (same_signal x z || false) (x ∷ kept) kept ≡ cond (same_signal z x || false) (z ∷ kept) kept) equals refl
    by false is = elim (cases_Bool (same_signal y x)) [
      | inl turned ↦ absurd (true≢false (sym (ap (same_signal x) (signal-exact y x turned) ∙ signal-itself x) ∙ is))
      | inr apart ↦ ap (λ b. cond (b || false) (x ∷ kept) kept) is ∙ sym (ap (λ b. cond (b || false) (y ∷ kept) kept) apart)
    ]

-- the signals of the one list that are in the other are those of the other that are in the one
pub in_both : (xs ys : List SignalData) → AllPairs Rises xs → AllPairs Rises ys → filter (is_in ys) xs ≡ filter (is_in xs) ys
in_both [] ys rises_x rises_y = sym (none-kept ys)
in_both (x ∷ xs) [] rises_x rises_y = none-kept xs
in_both (x ∷ xs) (y ∷ ys) rises_x rises_y = elim (cases_order x.start y.start) [
  | inl same ↦ first_both x y xs ys same rises_x rises_y (in_both xs ys (AllPairs-tail Rises x xs rises_x) (AllPairs-tail Rises y ys rises_y))
  | inr (inl less) ↦ first_alone x y xs ys less rises_y (in_both xs (y ∷ ys) (AllPairs-tail Rises x xs rises_x) rises_y)
  | inr (inr more) ↦ sym (first_alone y x ys xs more rises_x (sym (in_both (x ∷ xs) ys rises_x (AllPairs-tail Rises y ys rises_y))))
]
