-- The runs of bits of a signal in big order.
use Rattle.std.proofs.Common.{◌≡◌, ℕ, zero, suc, ◌+◌, ◌-◌, ◌%◌, ◌<◌, ◌≤◌, List, [], ◌∷◌, ◌++◌, refl, sym, ap, ◌∙◌, append_assoc, append-nil, arith, subst}
use Rattle.std.specs.List.{flat_map, range_with_len}
use Rattle.std.specs.List.Sorted.{IsPermutation}
use Rattle.std.proofs.lemmas.Bool.Decides.{nat_tests}
use Rattle.std.proofs.lemmas.Grind.{flat_map-append}
use Rattle.std.proofs.lemmas.List.{map-id}
use Rattle.std.proofs.lemmas.List.FromFn.{map-range_with_len_more}
use Rattle.std.proofs.lemmas.List.Sorted.{IsPermutation-refl, IsPermutation-trans, IsPermutation-cons, IsPermutation-append_left, IsPermutation-append_right, IsPermutation-append_comm, IsPermutation-reverse}
use Rattle.fr_base.specs.Bits.{after_big, bits_of, run_big, run_of}
use Rattle.fr_base.specs.Signals.{SignalData}
use Rattle.fr_base.specs.declared.signal.Order.{Order}
use Rattle.fr_base.specs.declared.signal.Order.TheVariants.{Little, Big}
use Rattle.fr_picture.specs.declared.signals.Run.{Run}
use Rattle.fr_picture.specs.Strips.{bits_in}

same : {X : Type 0} (xs ys : List X) → xs ≡ ys → IsPermutation xs ys
same xs ys e = subst (λ zs. IsPermutation xs zs) e (IsPermutation-refl xs)

-- a number more
range_more : (a n h : ℕ) → a + n ≡ h → range_with_len a (suc n) ≡ range_with_len a n ++ h ∷ []
range_more a n h e =
    let on : suc n ≡ n + 1 = omega arith in
    ap (range_with_len a) on ∙ sym (map-id (range_with_len a (n + 1))) ∙ map-range_with_len_more (λ k. k) a n h e
    ∙ ap (λ xs. xs ++ h ∷ []) (map-id (range_with_len a n))

within : (h : ℕ) → 0 < h % 8 → after_big h ≡ h - 1
within h pos = grind (arith, nat_tests, pos)

across : (h : ℕ) → h % 8 ≡ 0 → after_big h ≡ h + 15
across h low = grind (arith, nat_tests, low)

-- k bits down within a byte, and n more
run_down : (k a h n : ℕ) → a + k ≡ h + 1 → k ≤ h % 8 → IsPermutation (range_with_len a k ++ run_big (h - k) n) (run_big h (k + n))
run_down zero a h n top le =
    let all : h - 0 ≡ h = omega arith in
    let none : n ≡ 0 + n = omega arith in
    same (run_big (h - 0) n) (run_big h (0 + n)) (ap (λ m. run_big m n) all ∙ ap (run_big h) none)
run_down (suc k) a h n top le =
    let line = range_with_len a k in
    let rest = run_big (h - suc k) n in
    let down : h - 1 - k ≡ h - suc k = omega arith in
    let on : suc (k + n) ≡ suc k + n = omega arith in
    let ih : IsPermutation (line ++ rest) (run_big (h - 1) (k + n)) =
    subst (λ m. IsPermutation (line ++ run_big m n) (run_big (h - 1) (k + n))) down
    (run_down k a (h - 1) n (omega (arith, top, le)) (omega (arith, le))) in
    IsPermutation-trans (range_with_len a (suc k) ++ rest) ((line ++ h ∷ []) ++ rest) (run_big h (suc k + n))
    (same (range_with_len a (suc k) ++ rest) ((line ++ h ∷ []) ++ rest) (ap (λ xs. xs ++ rest) (range_more a k h (omega (arith, top)))))
    (IsPermutation-trans ((line ++ h ∷ []) ++ rest) ((h ∷ line) ++ rest) (run_big h (suc k + n))
    (IsPermutation-append_left rest (line ++ h ∷ []) (h ∷ line) (IsPermutation-append_comm line (h ∷ [])))
    (IsPermutation-trans (h ∷ (line ++ rest)) (h ∷ run_big (h - 1) (k + n)) (run_big h (suc k + n))
    (IsPermutation-cons h (line ++ rest) (run_big (h - 1) (k + n)) ih)
    (same (h ∷ run_big (h - 1) (k + n)) (run_big h (suc k + n)) (ap (λ m. h ∷ run_big m (k + n)) (sym (within h (omega (arith, le)))) ∙ ap (run_big h) on))))

-- the last bits, which end in the byte in which they begin
run_last : (h n a : ℕ) → a + n ≡ h + 1 → n ≤ h % 8 → IsPermutation (range_with_len a n) (run_big h n)
run_last h n a top le =
    let zero_more : n + 0 ≡ n = omega arith in
    subst (λ xs. IsPermutation xs (run_big h n)) (append-nil (range_with_len a n))
    (subst (λ m. IsPermutation (range_with_len a n ++ []) (run_big h m)) zero_more (run_down n a h 0 top le))

-- all bits down to the lowest of the byte, and n more
run_byte : (p h n : ℕ) → p ≡ h % 8 → IsPermutation (range_with_len (h - p) (p + 1) ++ run_big (h - p + 15) n) (run_big h (p + 1 + n))
run_byte p h n place =
    let low = h - p in
    let line = range_with_len (low + 1) p in
    let rest = run_big (low + 15) n in
    let on : p + 1 ≡ suc p = omega arith in
    let all : p + suc n ≡ p + 1 + n = omega arith in
    let next : low ∷ rest ≡ run_big low (suc n) = ap (λ m. low ∷ run_big m n) (sym (across low (omega (arith, place)))) in
    IsPermutation-trans (range_with_len low (p + 1) ++ rest) ((low ∷ line) ++ rest) (run_big h (p + 1 + n))
    (same (range_with_len low (p + 1) ++ rest) ((low ∷ line) ++ rest) (ap (λ m. range_with_len low m ++ rest) on))
    (IsPermutation-trans ((low ∷ line) ++ rest) ((line ++ low ∷ []) ++ rest) (run_big h (p + 1 + n))
    (IsPermutation-append_left rest (low ∷ line) (line ++ low ∷ []) (IsPermutation-append_comm (low ∷ []) line))
    (IsPermutation-trans ((line ++ low ∷ []) ++ rest) (line ++ run_big low (suc n)) (run_big h (p + 1 + n))
    (same ((line ++ low ∷ []) ++ rest) (line ++ run_big low (suc n)) (append_assoc line (low ∷ []) rest ∙ ap (λ xs. line ++ xs) next))
    (subst (λ m. IsPermutation (line ++ run_big low (suc n)) (run_big h m)) all
    (run_down p (low + 1) h (suc n) (omega (arith, place)) (omega (arith, place))))))

-- ---- a list of runs, and one more

bits_in-more : (runs new : List Run) (r : Run) → new ≡ runs ++ r ∷ [] → bits_in new ≡ bits_in runs ++ range_with_len r.start r.length
unfolding bits_in
bits_in-more runs new r after =
    ap (flat_map (λ q. range_with_len q.start q.length)) after ∙ flat_map-append (λ q. range_with_len q.start q.length) runs (r ∷ [])
    ∙ ap (λ xs. flat_map (λ q. range_with_len q.start q.length) runs ++ xs) (append-nil (range_with_len r.start r.length))

pub bits_in_none : (runs : List Run) (all : List ℕ) → runs ≡ [] → IsPermutation (bits_in runs ++ all) all
unfolding bits_in
bits_in_none runs all none = subst (λ rs. IsPermutation (bits_in rs ++ all) all) (sym none) (IsPermutation-refl all)

onto : (done line rest more all : List ℕ) → IsPermutation (line ++ rest) more → IsPermutation (done ++ more) all → IsPermutation ((done ++ line) ++ rest) all
onto done line rest more all step before =
    IsPermutation-trans ((done ++ line) ++ rest) (done ++ (line ++ rest)) all (same ((done ++ line) ++ rest) (done ++ (line ++ rest)) (append_assoc done line rest))
    (IsPermutation-trans (done ++ (line ++ rest)) (done ++ more) all (IsPermutation-append_right done (line ++ rest) more step) before)

-- a run down to the lowest bit of the byte
pub byte_more : (runs new : List Run) (r : Run) (h left : ℕ) (all : List ℕ) → new ≡ runs ++ r ∷ [] → r.start ≡ h - h % 8 → r.length ≡ h % 8 + 1 → h % 8 < left
    → IsPermutation (bits_in runs ++ run_big h left) all → IsPermutation (bits_in new ++ run_big (h - h % 8 + 15) (left - (h % 8 + 1))) all
byte_more runs new r h left all after low count more before =
    let rest = run_big (h - h % 8 + 15) (left - (h % 8 + 1)) in
    let whole : h % 8 + 1 + (left - (h % 8 + 1)) ≡ left = omega (arith, more) in
    let line : range_with_len r.start r.length ≡ range_with_len (h - h % 8) (h % 8 + 1) = ap (λ a. range_with_len a r.length) low ∙ ap (range_with_len (h - h % 8)) count in
    subst (λ xs. IsPermutation (xs ++ rest) all) (sym (bits_in-more runs new r after ∙ ap (λ xs. bits_in runs ++ xs) line))
    (onto (bits_in runs) (range_with_len (h - h % 8) (h % 8 + 1)) rest (run_big h left) all
    (subst (λ m. IsPermutation (range_with_len (h - h % 8) (h % 8 + 1) ++ rest) (run_big h m)) whole (run_byte (h % 8) h (left - (h % 8 + 1)) refl)) before)

-- the last run
pub last_more : (runs new : List Run) (r : Run) (h left : ℕ) (all : List ℕ) → new ≡ runs ++ r ∷ [] → r.start ≡ h - left + 1 → r.length ≡ left → left ≤ h % 8
    → IsPermutation (bits_in runs ++ run_big h left) all → IsPermutation (bits_in new) all
last_more runs new r h left all after low count less before =
    let top : h - left + 1 + left ≡ h + 1 = omega (arith, less) in
    let line : range_with_len r.start r.length ≡ range_with_len (h - left + 1) left = ap (λ a. range_with_len a r.length) low ∙ ap (range_with_len (h - left + 1)) count in
    subst (λ xs. IsPermutation xs all) (sym (bits_in-more runs new r after ∙ ap (λ xs. bits_in runs ++ xs) line))
    (IsPermutation-trans (bits_in runs ++ range_with_len (h - left + 1) left) (bits_in runs ++ run_big h left) all
    (IsPermutation-append_right (bits_in runs) (range_with_len (h - left + 1) left) (run_big h left) (run_last h left (h - left + 1) top less)) before)

pub none_more : (runs : List Run) (h left : ℕ) (all : List ℕ) → left ≡ 0 → IsPermutation (bits_in runs ++ run_big h left) all → IsPermutation (bits_in runs) all
none_more runs h left all none before =
    subst (λ xs. IsPermutation xs all) (append-nil (bits_in runs)) (subst (λ m. IsPermutation (bits_in runs ++ run_big h m) all) none before)

-- ---- the bits of a signal

pub little_bits : (xs : List ℕ) (start n : ℕ) → xs ≡ range_with_len start n → IsPermutation xs (run_of Little start n)
little_bits xs start n e = same xs (range_with_len start n) e

pub big_bits : (xs : List ℕ) (start n : ℕ) → IsPermutation xs (run_big start n) → IsPermutation xs (run_of Big start n)
big_bits xs start n h = IsPermutation-trans xs (run_big start n) (run_of Big start n) h (IsPermutation-reverse (run_big start n))

pub signal_bits : (xs : List ℕ) (s : SignalData) (o : Order) (start n : ℕ) → o ≡ s.order → start ≡ s.start → n ≡ s.length → IsPermutation xs (run_of o start n) → IsPermutation xs (bits_of s)
unfolding bits_of
signal_bits xs s o start n e1 e2 e3 h =
    subst (λ m. IsPermutation xs (run_of s.order s.start m)) e3 (subst (λ a. IsPermutation xs (run_of s.order a n)) e2 (subst (λ q. IsPermutation xs (run_of q start n)) e1 h))

pub ruleset last = (last_more, none_more)

pub ruleset orders = (little_bits, big_bits)
