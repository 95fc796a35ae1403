-- Laws of layouts: a layout stays one where a signal is added or removed.
use Rattle.std.proofs.Common.{◌≡◌, ◌≢◌, ℕ, suc, zero, ◌+◌, ◌*◌, ◌<◌, ◌≤◌, Bool, true, false, not, ◌&&◌, ◌||◌, List, [], ◌∷◌, length, filter, get_or, Option, Some, None, is_some, Ok, IfOk, refl, sym, ◌∙◌, ap, arith, eqb, ltb, cond, inl, inr, ◌⊎◌, All, AllPairs, IsTrue, reverse, subst, true≢false, leb-false}
use Rattle.std.specs.Prelude.{⊤}
use Rattle.std.specs.List.{list_any, list_all, range_with_len, find}
use Rattle.std.specs.Option.{option_map, option_and_then}
use Rattle.fr_base.specs.Names.{same_text}
use Rattle.std.proofs.lemmas.Bool.{ltb-true, and_parts, or_cases}
use Rattle.std.proofs.lemmas.Bool.Decides.{nat_tests, Decides-eqb, eqb_tells}
use Rattle.std.proofs.lemmas.List.Elements.{All-cons, All-head, All-tail, All-filter, All-weaker}
use Rattle.std.proofs.lemmas.List.Folds.{list_any_at}
use Rattle.std.proofs.lemmas.List.Kept.{AllPairs-cons, AllPairs-filter}
use Rattle.std.proofs.lemmas.List.Sorted.{list_any-IsPermutation, IsPermutation-sym, IsPermutation-reverse}
use Rattle.std.proofs.lemmas.List.Sums.{length-filter, count_by-le-length}
use Rattle.std.proofs.lemmas.Slice.Eq.{bytes_eq-Decides}
use Rattle.fr_base.specs.declared.limits.TheConstants.{MAX_SIGNALS}
use Rattle.fr_base.specs.Signals.{SignalData, is_signal_length}
use Rattle.fr_base.specs.Bits.{bits_of, run_of, run_big, uses}
use Rattle.fr_base.specs.Layouts.{LayoutData, IsLayout, AreApart, lies_inside, has_signal, user_of, taken_at, first_taken_bit, bit_taken, with_signal, admits_signal, without_signal}
use Rattle.fr_base.specs.declared.signal.Order.{Order}
use Rattle.fr_base.specs.declared.signal.Order.TheVariants.{Little, Big}
use Rattle.fr_base.proofs.SoundRefusing.{gives_when, gives_unless, gives_last}

-- ---- where bits lie

-- an entry of a list is below what bounds them all
all_below : (qs : List ℕ) (p n : ℕ) → IsTrue (list_all (λ q. ltb q n) qs) → IsTrue (list_any (λ q. eqb q p) qs) → p < n
all_below [] p n below here = absurd (true≢false (sym here))
all_below (q ∷ qs) p n below here =
    let both = and_parts _ _ below in
    elim (or_cases _ _ here) [
      | inl same ↦ subst (λ m. m < n) ((Decides-eqb q p).0 same) (ltb-true q n both.0)
      | inr later ↦ all_below qs p n both.1 later
    ]

run_start : (o : Order) (start n : ℕ) → 1 ≤ n → list_any (λ q. eqb q start) (run_of o start n) ≡ true
run_start o start zero h = absurd (omega arith)
run_start Little start (suc n) h = ap (λ b. b || list_any (λ q. eqb q start) (range_with_len (start + 1) n)) ((Decides-eqb start start).1 refl)
run_start Big start (suc n) h =
    let run = run_big start (suc n) in
    list_any-IsPermutation (λ q. eqb q start) (reverse run) run (IsPermutation-sym run (reverse run) (IsPermutation-reverse run))
    ∙ grind (arith, nat_tests)

-- a signal has its start
uses_start : (s : SignalData) → 1 ≤ s.length → uses s s.start ≡ true
unfolding bits_of
uses_start s h = run_start s.order s.start s.length h

-- ---- who uses a bit

pub is_some-find : {X : Type 0} (p : X → Bool) (xs : List X) → is_some (find p xs) ≡ list_any p xs
is_some-find p [] = refl
is_some-find p (x ∷ xs) = by_test (p x) (is_some-find p xs)
  where
    by_test : (b : Bool) → is_some (find p xs) ≡ list_any p xs → is_some (cond b (Some x) (find p xs)) ≡ (b || list_any p xs)
    by_test true e = refl
    by_test false e = e

pub is_some-user_of : (signals : List SignalData) (p : ℕ) → is_some (user_of signals p) ≡ list_any (λ s. uses s p) signals
is_some-user_of signals p = is_some-find (λ s. uses s p) signals

pub none_of : {X : Type 0} (p : X → Bool) (xs : List X) → list_any p xs ≡ false → All (λ x. p x ≡ false) xs
none_of p [] h k d within = absurd (omega arith)
none_of p (x ∷ xs) h zero d within = first (p x) (list_any p xs) h
  where
    first : (a b : Bool) → (a || b) ≡ false → a ≡ false
    first true b h = h
    first false b h = refl
none_of p (x ∷ xs) h (suc k) d within = none_of p xs (rest (p x) (list_any p xs) h) k d (omega arith)
  where
    rest : (a b : Bool) → (a || b) ≡ false → b ≡ false
    rest true b h = cc
    rest false b h = h

-- ---- what adding a signal keeps

pub All-with : (P : SignalData → Type 0) (s : SignalData) (xs : List SignalData) → P s → All P xs → All P (with_signal s xs)
All-with P s [] here all = All-cons P s [] here all
All-with P s (t ∷ xs) here all = by_test (ltb s.start t.start) (All-with P s xs here (All-tail P t xs all))
  where
    by_test : (b : Bool) → All P (with_signal s xs) → All P (cond b (s ∷ t ∷ xs) (t ∷ with_signal s xs))
    by_test true later = All-cons P s (t ∷ xs) here all
    by_test false later = All-cons P t (with_signal s xs) (All-head P t xs all) later

pub AllPairs-tail : {X : Type 0} (R : X → X → Type 0) (x : X) (xs : List X) → AllPairs R (x ∷ xs) → AllPairs R xs
AllPairs-tail R x xs pairs i j d low high = pairs (suc i) (suc j) d (omega arith) (omega arith)

pub AllPairs-head : {X : Type 0} (R : X → X → Type 0) (x : X) (xs : List X) → AllPairs R (x ∷ xs) → All (R x) xs
AllPairs-head R x xs pairs k d h = pairs 0 (suc k) d (omega arith) (omega arith)

pub AllPairs-with : (R : SignalData → SignalData → Type 0) (s : SignalData) (xs : List SignalData) → All (R s) xs → All (λ t. R t s) xs → AllPairs R xs → AllPairs R (with_signal s xs)
AllPairs-with R s [] after before pairs = AllPairs-cons R s [] after pairs
AllPairs-with R s (t ∷ xs) after before pairs =
    by_test (ltb s.start t.start) (AllPairs-with R s xs (All-tail (R s) t xs after) (All-tail (λ u. R u s) t xs before) (AllPairs-tail R t xs pairs))
  where
    by_test : (b : Bool) → AllPairs R (with_signal s xs) → AllPairs R (cond b (s ∷ t ∷ xs) (t ∷ with_signal s xs))
    by_test true later = AllPairs-cons R s (t ∷ xs) after pairs
    by_test false later = AllPairs-cons R t (with_signal s xs) (All-with (R t) s xs (All-head (λ u. R u s) t xs before) (AllPairs-head R t xs pairs)) later

abbrev pub Rises : SignalData → SignalData → Type 0
Rises s t = s.start < t.start

rises_later : (a b : ℕ) → ltb a b ≡ false → a ≢ b → b < a
rises_later a b e n = grind (arith, nat_tests)

pub rising-with : (s : SignalData) (xs : List SignalData) → All (λ t. s.start ≢ t.start) xs → AllPairs Rises xs → AllPairs Rises (with_signal s xs)
rising-with s [] other pairs = AllPairs-cons Rises s [] (λ k d h. absurd (omega arith)) pairs
rising-with s (t ∷ xs) other pairs =
    by_test (ltb s.start t.start) refl (rising-with s xs (All-tail (λ u. s.start ≢ u.start) t xs other) (AllPairs-tail Rises t xs pairs))
  where
    by_test : (b : Bool) → ltb s.start t.start ≡ b → AllPairs Rises (with_signal s xs) → AllPairs Rises (cond b (s ∷ t ∷ xs) (t ∷ with_signal s xs))
    by_test true e later =
        let below : s.start < t.start = ltb-true s.start t.start e in
        AllPairs-cons Rises s (t ∷ xs) (All-cons (Rises s) t xs below (All-weaker (Rises t) (Rises s) (λ u h. omega arith) xs (AllPairs-head Rises t xs pairs))) pairs
    by_test false e later =
        let below : t.start < s.start = rises_later s.start t.start e (All-head (λ u. s.start ≢ u.start) t xs other) in
        AllPairs-cons Rises t (with_signal s xs) (All-with (Rises t) s xs below (AllPairs-head Rises t xs pairs)) later

pub length-with_signal : (s : SignalData) (xs : List SignalData) → length (with_signal s xs) ≡ length xs + 1
length-with_signal s [] = refl
length-with_signal s (t ∷ xs) = by_test (ltb s.start t.start) (length-with_signal s xs)
  where
    by_test : (b : Bool) → length (with_signal s xs) ≡ length xs + 1 → length (cond b (s ∷ t ∷ xs) (t ∷ with_signal s xs)) ≡ length (t ∷ xs) + 1
    by_test true later = omega arith
    by_test false later = omega (arith, later)

-- ---- a signal of which no bit is taken

-- whether both the signal and one of the layout use the bit
unfoldable pub taken_test : LayoutData → SignalData → ℕ → Bool
taken_test l s p = uses s p && is_some (user_of l.signals p)

pub first_taken_is : (l : LayoutData) (s : SignalData) → first_taken_bit l s ≡ option_and_then (taken_at l.signals) (find (taken_test l s) (range_with_len 0 (16 * l.words)))
unfolding first_taken_bit taken_test
first_taken_is l s = refl

find_passes : (f : ℕ → Bool) (xs : List ℕ) (q : ℕ) → find f xs ≡ Some q → f q ≡ true
find_passes f [] q e = cc
find_passes f (x ∷ xs) q e = by_test (f x) refl e (find_passes f xs q)
  where
    by_test : (b : Bool) → f x ≡ b → cond b (Some x) (find f xs) ≡ Some q → (find f xs ≡ Some q → f q ≡ true) → f q ≡ true
    by_test true h e later = let same : x ≡ q = cc in ap f (sym same) ∙ h
    by_test false h e later = later e

find_none_all : (f : ℕ → Bool) (a n p : ℕ) → find f (range_with_len a n) ≡ None → a ≤ p → p < a + n → f p ≡ false
find_none_all f a zero p e low high = absurd (omega arith)
find_none_all f a (suc n) p e low high = by_test (f a) refl e (λ none less. find_none_all f (a + 1) n p none less (omega arith)) (eqb_tells a p)
  where
    by_test : (b : Bool) → f a ≡ b → cond b (Some a) (find f (range_with_len (a + 1) n)) ≡ None → (find f (range_with_len (a + 1) n) ≡ None → a + 1 ≤ p → f p ≡ false) →
        ((eqb a p ≡ true) × (a ≡ p)) ⊎ ((eqb a p ≡ false) × (a ≢ p)) → f p ≡ false
    by_test true h e later either = cc
    by_test false h e later (inl same) = ap f (sym same.1) ∙ h
    by_test false h e later (inr other) = later e (omega (arith, other.1))

none_taken : (l : LayoutData) (s : SignalData) (o : Option ℕ) → ((q : ℕ) → o ≡ Some q → taken_test l s q ≡ true) → option_and_then (taken_at l.signals) o ≡ None → o ≡ None
unfolding taken_test
none_taken l s None passes e = refl
none_taken l s (Some q) passes e = absurd (no_user (user_of l.signals q) (uses s q) (passes q refl) e)
  where
    named : SignalData → ℕ × List ℕ
    named t = (q, t.name)

    no_user : (u : Option SignalData) (b : Bool) → (b && is_some u) ≡ true → option_map named u ≡ None → ⊥
    no_user None true h e = cc
    no_user None false h e = cc
    no_user (Some t) b h e = cc

free_tests : (l : LayoutData) (s : SignalData) (p : ℕ) → first_taken_bit l s ≡ None → p < 16 * l.words → taken_test l s p ≡ false
free_tests l s p free below =
    find_none_all (taken_test l s) 0 (16 * l.words) p
    (none_taken l s (find (taken_test l s) (range_with_len 0 (16 * l.words))) (find_passes (taken_test l s) (range_with_len 0 (16 * l.words))) (sym (first_taken_is l s) ∙ free))
    (omega arith) (omega arith)

-- a free signal shares no bit with the others
free_apart : (l : LayoutData) (s : SignalData) → IsTrue (lies_inside l.words s) → first_taken_bit l s ≡ None → All (AreApart s) l.signals
unfolding taken_test
free_apart l s inside free k d within p here there =
    let user : is_some (user_of l.signals p) ≡ true = is_some-user_of l.signals p ∙ list_any_at (λ t. uses t p) l.signals k d within there in
    true≢false (sym (ap (λ b. b && is_some (user_of l.signals p)) here ∙ user) ∙ free_tests l s p free (all_below (bits_of s) p (16 * l.words) inside here))

length_bounds : (n : ℕ) → IsTrue (is_signal_length n) → (1 ≤ n) × (n ≤ 64)
length_bounds n h = (grind (arith, nat_tests), grind (arith, nat_tests))

other_names : (l : LayoutData) (s : SignalData) → has_signal l.signals s.name ≡ false → All (λ t. t.name ≢ s.name) l.signals
other_names l s fresh k d within e =
    true≢false (sym ((bytes_eq-Decides (get_or l.signals k d).name s.name).1 e) ∙ none_of (λ t. same_text t.name s.name) l.signals fresh k d within)

other_starts : (l : LayoutData) (s : SignalData) → IsLayout l → 1 ≤ s.length → All (AreApart s) l.signals → All (λ t. s.start ≢ t.start) l.signals
other_starts l s sound long apart k d within same =
    apart k d within s.start (uses_start s long)
    (ap (uses (get_or l.signals k d)) same ∙ uses_start (get_or l.signals k d) (length_bounds (get_or l.signals k d).length (sound.lengths k d within)).0)

-- ---- no signals, one signal more, or fewer

-- no signals make a layout
pub empty-layout : (words : ℕ) → words ≤ 127 → IsLayout (record { words = words; signals = [] })
empty-layout words few = record {
  words = few;
  count = omega arith;
  lengths = λ k d h. absurd (omega arith);
  inside = λ k d h. absurd (omega arith);
  apart = λ i j d h below. absurd (omega arith);
  names = λ i j d h below. absurd (omega arith);
  rising = λ i j d h below. absurd (omega arith);
}

pub with_signal-layout : (l : LayoutData) (s : SignalData) → IsLayout l → IsTrue (is_signal_length s.length) → has_signal l.signals s.name ≡ false → length l.signals < MAX_SIGNALS → IsTrue (lies_inside l.words s) → first_taken_bit l s ≡ None →
    IsLayout (record l { signals = with_signal s l.signals })
with_signal-layout l s sound long fresh room inside free =
    let apart : All (AreApart s) l.signals = free_apart l s inside free in
    let names : All (λ t. t.name ≢ s.name) l.signals = other_names l s fresh in
    record {
      words = sound.words;
      count = omega (arith, length-with_signal s l.signals, room);
      lengths = All-with (λ t. IsTrue (is_signal_length t.length)) s l.signals long sound.lengths;
      inside = All-with (λ t. IsTrue (lies_inside l.words t)) s l.signals inside sound.inside;
      apart = AllPairs-with AreApart s l.signals apart (λ k d within p there here. apart k d within p here there) sound.apart;
      names = AllPairs-with (λ t u. t.name ≢ u.name) s l.signals (λ k d within e. names k d within (sym e)) names sound.names;
      rising = rising-with s l.signals (other_starts l s sound (length_bounds s.length long).0 apart) sound.rising;
    }

-- some of the signals of a layout
pub filter-layout : (l : LayoutData) (p : SignalData → Bool) → IsLayout l → IsLayout (record l { signals = filter p l.signals })
filter-layout l p sound = record {
  words = sound.words;
  count = omega (arith, length-filter p l.signals, count_by-le-length p l.signals, sound.count);
  lengths = All-filter p (λ s. IsTrue (is_signal_length s.length)) l.signals sound.lengths;
  inside = All-filter p (λ s. IsTrue (lies_inside l.words s)) l.signals sound.inside;
  apart = AllPairs-filter AreApart p l.signals sound.apart;
  names = AllPairs-filter (λ s t. s.name ≢ t.name) p l.signals sound.names;
  rising = AllPairs-filter Rises p l.signals sound.rising;
}

-- ---- what the definitions give

none_bit : (o : Option (ℕ × List ℕ)) (x : ⊤) → bit_taken o ≡ Ok x → o ≡ None
none_bit None x e = refl
none_bit (Some taken) x e = cc

-- the signals make a layout of a payload as long as this one's, and P holds of each
abbrev pub IsLayoutOf : (SignalData → Type 0) → LayoutData → List SignalData → Type 0
IsLayoutOf P l signals = IsLayout (record l { signals = signals }) × All P signals

-- a layout stays one with a signal more
pub admits_signal-layout : (P : SignalData → Type 0) (l : LayoutData) (s : SignalData) → IsLayoutOf P l l.signals → IsTrue (is_signal_length s.length) → P s → IfOk (admits_signal l s) (λ _. IsLayoutOf P l (with_signal s l.signals))
unfolding admits_signal
admits_signal-layout P l s sound long has =
    let more : has_signal l.signals s.name ≡ false → length l.signals < MAX_SIGNALS → IsTrue (lies_inside l.words s) → first_taken_bit l s ≡ None → IsLayoutOf P l (with_signal s l.signals) =
    λ fresh room inside free. (with_signal-layout l s sound.0 long fresh room inside free, All-with P s l.signals has sound.1) in
    gives_when _ _ _ _ (λ fresh.
    gives_when _ _ _ _ (λ room.
    gives_unless _ _ _ _ (λ inside.
    gives_last _ (bit_taken (first_taken_bit l s)) (λ x free.
    more fresh (leb-false _ _ room) inside (none_bit _ x free)))))

-- and with a signal less
pub without_signal-layout : (P : SignalData → Type 0) (l : LayoutData) (name : List ℕ) → IsLayoutOf P l l.signals → IsLayoutOf P l (without_signal name l.signals)
without_signal-layout P l name sound =
    (filter-layout l (λ s. not (same_text s.name name)) sound.0, All-filter (λ s. not (same_text s.name name)) P l.signals sound.1)
