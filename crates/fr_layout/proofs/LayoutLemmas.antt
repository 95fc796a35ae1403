-- Laws of layouts: what adding and removing a signal keeps.
use Rattle.std.proofs.Common.{◌≡◌, ◌≢◌, ℕ, suc, zero, ◌+◌, ◌*◌, ◌/◌, ◌<◌, ◌≤◌, Bool, true, false, not, ◌&&◌, ◌||◌, List, [], ◌∷◌, length, filter, get_or, Option, Some, None, is_some, Result, Ok, Err, refl, sym, ◌∙◌, ap, arith, eqb, ltb, leb, cond, inl, inr, ◌⊎◌, All, AllPairs, IsTrue, IsOk, is_ok, MatchResult, position, insert, remove, unwrap_or, subst}
use Rattle.std.specs.List.{list_any, range_with_len, find, position_or_len}
use Rattle.std.specs.Option.{option_map, option_and_then}
use Rattle.std.specs.Str.{bytes_eq}
use Rattle.std.proofs.lemmas.Bool.{ltb-true, lt-ltb}
use Rattle.std.proofs.lemmas.Bool.Decides.{nat_tests, Decides-eqb, eqb_tells, leb_tells}
use Rattle.std.proofs.lemmas.Nat.{le-div, div_below}
use Rattle.std.proofs.lemmas.List.Sums.{AllPass-from_list_all, prefix_len-le-length}
use Rattle.std.proofs.lemmas.List.Elements.{All-head, All-tail}
use Rattle.std.proofs.lemmas.List.Folds.{list_any_at}
use Rattle.std.proofs.lemmas.Slice.Eq.{bytes_eq-Decides}
use Rattle.fr_base.specs.Refusing.{◌>>=◌, ◌>>◌, refuse◌when◌}
use Rattle.fr_base.specs.Signals.{SignalData, is_signal_length}
use Rattle.fr_base.specs.Bits.{bits_of, uses, entry_of}
use Rattle.fr_base.specs.Layouts.{LayoutData, IsLayout, lies_inside, has_signal, user_of, taken_at, first_taken_bit, bit_taken, with_signal, admits_signal, add_signal, remove_signal}
use Rattle.fr_base.specs.declared.refusal.Refusal.{Refusal}
use Rattle.fr_base.specs.declared.refusal.Refusal.TheVariants.{Exists, Limit, NoSignal, OutOfPayload, BitTaken}
use Rattle.fr_base.proofs.LayoutLaws.{is_some-user_of, AllPairs-tail, AllPairs-head, taken_test, first_taken_is, empty-layout, with_signal-layout, filter-layout}
use Rattle.fr_layout.specs.Least.{IsLeast}
use Rattle.fr_layout.specs.Used.{IsTaken}
use Rattle.fr_layout.proofs.BitsLemmas.{length-bits_of}

-- ---- where bits lie

pub inside_below : (s : SignalData) (words n : ℕ) → IsTrue (lies_inside words s) → 16 * words ≤ n → All (λ p. p < n) (bits_of s)
inside_below s words n inside room k d h =
    let below : get_or (bits_of s) k d < 16 * words = ltb-true (get_or (bits_of s) k d) (16 * words) (AllPass-from_list_all (λ p. ltb p (16 * words)) (bits_of s) inside k d h) in
    omega arith

-- a position that a list has stands somewhere in it
abbrev pub StandsIn : List ℕ → ℕ → Type 0
StandsIn qs p = (i : ℕ) × (i < length qs) × (get_or qs i 0 ≡ p) × (entry_of qs p ≡ Some i)

pub any_at : (qs : List ℕ) (p : ℕ) → list_any (λ q. eqb q p) qs ≡ true → StandsIn qs p
any_at [] p h = cc
any_at (q ∷ qs) p h = head_or_tail (eqb q p) (Decides-eqb q p).0 refl h (any_at qs p)
  where
    head_or_tail : (b : Bool) → (eqb q p ≡ true → q ≡ p) → eqb q p ≡ b → (b || list_any (λ q. eqb q p) qs) ≡ true → (list_any (λ q. eqb q p) qs ≡ true → StandsIn qs p) → StandsIn (q ∷ qs) p
    head_or_tail true same e h later = (0, omega arith, same e, ap (λ b. cond b (Some 0) (option_map suc (entry_of qs p))) e)
    head_or_tail false same e h later =
        let found = later h in
        (suc found.0, omega (arith, found.1), found.2, ap (λ b. cond b (Some 0) (option_map suc (entry_of qs p))) e ∙ ap (option_map suc) found.3)

pub uses_entry : (s : SignalData) (p : ℕ) → uses s p ≡ true → (i : ℕ) × (i < s.length) × (get_or (bits_of s) i 0 ≡ p) × (entry_of (bits_of s) p ≡ Some i)
uses_entry s p h =
    let found = any_at (bits_of s) p h in
    (found.0, omega (arith, length-bits_of s, found.1), found.2, found.3)

-- the least number that passes
find_from : (f : ℕ → Bool) (p a n : ℕ) → f p ≡ true → ((q : ℕ) → q < p → f q ≡ false) → a ≤ p → p < a + n → find f (range_with_len a n) ≡ Some p
find_from f p a zero here before low high = absurd (omega arith)
find_from f p a (suc n) here before low high = by_test (eqb_tells a p) (λ less. find_from f p (a + 1) n here before (omega arith) (omega arith))
  where
    by_test : ((eqb a p ≡ true) × (a ≡ p)) ⊎ ((eqb a p ≡ false) × (a ≢ p)) → (a < p → find f (range_with_len (a + 1) n) ≡ Some p) → find f (range_with_len a (suc n)) ≡ Some p
    by_test (inl same) later = ap (λ b. cond b (Some a) (find f (range_with_len (a + 1) n))) (ap f same.1 ∙ here) ∙ ap Some same.1
    by_test (inr other) later =
        let less : a < p = omega (arith, other.1) in
        ap (λ b. cond b (Some a) (find f (range_with_len (a + 1) n))) (before a less) ∙ later less

pub find_least : (f : ℕ → Bool) (p n : ℕ) → p < n → f p ≡ true → ((q : ℕ) → q < p → f q ≡ false) → find f (range_with_len 0 n) ≡ Some p
find_least f p n h here before = find_from f p 0 n here before (omega arith) (omega arith)

pub find_nothing : (f : ℕ → Bool) (a n : ℕ) → ((q : ℕ) → f q ≡ false) → find f (range_with_len a n) ≡ None
find_nothing f a zero never = refl
find_nothing f a (suc n) never = ap (λ b. cond b (Some a) (find f (range_with_len (a + 1) n))) (never a) ∙ find_nothing f (a + 1) n never

-- the place at which the signal is inserted
pub with_signal_at : (s : SignalData) (xs : List SignalData) → insert xs (position_or_len (λ t. ltb s.start t.start) xs) s ≡ with_signal s xs
with_signal_at s [] = refl
with_signal_at s (t ∷ xs) = by_test (ltb s.start t.start) (with_signal_at s xs)
  where
    place : ℕ
    place = position_or_len (λ t. ltb s.start t.start) xs

    by_test : (b : Bool) → insert xs place s ≡ with_signal s xs → insert (t ∷ xs) (cond (not b) (1 + place) 0) s ≡ cond b (s ∷ t ∷ xs) (t ∷ with_signal s xs)
    by_test true later = refl
    by_test false later =
        let next : 1 + place ≡ suc place = omega arith in
        ap (λ n. insert (t ∷ xs) n s) next ∙ ap (λ l. t ∷ l) later

pub place_of_position : {X : Type 0} (p : X → Bool) (xs : List X) → unwrap_or (position p xs) (length xs) ≡ position_or_len p xs
place_of_position p xs = by_test (ltb (position_or_len p xs) (length xs)) refl (prefix_len-le-length (λ x. not (p x)) xs)
  where
    by_test : (b : Bool) → ltb (position_or_len p xs) (length xs) ≡ b → position_or_len p xs ≤ length xs → unwrap_or (cond b (Some (position_or_len p xs)) None) (length xs) ≡ position_or_len p xs
    by_test true e within = refl
    by_test false e within = grind (arith, nat_tests)

-- a value above a power of two
pub above_power : (v k : ℕ) → 0 < k → ltb 0 (v / k) ≡ leb k v
above_power v k h = by_test (leb_tells k v)
  where
    by_test : ((leb k v ≡ true) × (k ≤ v)) ⊎ ((leb k v ≡ false) × (v < k)) → ltb 0 (v / k) ≡ leb k v
    by_test (inl above) = lt-ltb 0 (v / k) (omega (arith, le-div 1 v k h (omega (arith, above.1)))) ∙ sym above.0
    by_test (inr below) =
        let none : v / k ≡ 0 = omega (arith, div_below v k 1 h (omega (arith, below.1))) in
        ap (ltb 0) none ∙ sym below.0

-- ---- the refusals, one after the other

abbrev adding : Bool → Bool → Bool → Option (ℕ × List ℕ) → LayoutData → Result LayoutData Refusal
adding exists full inside taken layout = do
  refuse Exists when exists
  refuse Limit when full
  refuse OutOfPayload when (not inside)
  bit_taken taken
  Ok layout

-- the layout with the signal
abbrev pub extended : LayoutData → SignalData → LayoutData
extended l s = record l { signals = with_signal s l.signals }

-- refusals and what follows them, in either grouping
grouped : {A B C : Type 0} (r : Result A Refusal) (u : Result B Refusal) (v : Result C Refusal) → ((r >> u) >> v) ≡ (r >> (u >> v))
unfolding ◌>>◌
grouped (Ok x) u v = refl
grouped (Err e) u v = refl

adding_is : (l : LayoutData) (s : SignalData) → add_signal l s ≡ adding (has_signal l.signals s.name) (leb 64 (length l.signals)) (lies_inside l.words s) (first_taken_bit l s) (extended l s)
unfolding add_signal admits_signal
adding_is l s =
    let last = Ok (extended l s) in
    grouped (refuse Exists when has_signal l.signals s.name) _ last
    ∙ ap (λ r. (refuse Exists when has_signal l.signals s.name) >> r) (
    grouped (refuse Limit when leb 64 (length l.signals)) _ last
    ∙ ap (λ r. (refuse Limit when leb 64 (length l.signals)) >> r) (
    grouped (refuse OutOfPayload when not (lies_inside l.words s)) (bit_taken (first_taken_bit l s)) last))

-- what an accepted signal has passed
pub record Admitted (l : LayoutData) (s : SignalData) : Type 0 where
  pub fresh : has_signal l.signals s.name ≡ false
  pub room : leb 64 (length l.signals) ≡ false
  pub inside : lies_inside l.words s ≡ true
  pub free : first_taken_bit l s ≡ None
  pub done : add_signal l s ≡ Ok (extended l s)

pub add_exists : (l : LayoutData) (s : SignalData) → has_signal l.signals s.name ≡ true → add_signal l s ≡ Err Exists
unfolding ◌>>=◌ ◌>>◌ refuse◌when◌
add_exists l s exists = adding_is l s ∙ ap (λ a. adding a (leb 64 (length l.signals)) (lies_inside l.words s) (first_taken_bit l s) (extended l s)) exists

pub add_limit : (l : LayoutData) (s : SignalData) → has_signal l.signals s.name ≡ false → leb 64 (length l.signals) ≡ true → add_signal l s ≡ Err Limit
unfolding ◌>>=◌ ◌>>◌ refuse◌when◌
add_limit l s fresh full =
    adding_is l s
    ∙ (ap (λ a. adding a (leb 64 (length l.signals)) (lies_inside l.words s) (first_taken_bit l s) (extended l s)) fresh
    ∙ ap (λ b. adding false b (lies_inside l.words s) (first_taken_bit l s) (extended l s)) full)

pub add_outside : (l : LayoutData) (s : SignalData) → has_signal l.signals s.name ≡ false → leb 64 (length l.signals) ≡ false → lies_inside l.words s ≡ false → add_signal l s ≡ Err OutOfPayload
unfolding ◌>>=◌ ◌>>◌ refuse◌when◌
add_outside l s fresh room outside =
    adding_is l s
    ∙ (ap (λ a. adding a (leb 64 (length l.signals)) (lies_inside l.words s) (first_taken_bit l s) (extended l s)) fresh
    ∙ (ap (λ b. adding false b (lies_inside l.words s) (first_taken_bit l s) (extended l s)) room
    ∙ ap (λ c. adding false false c (first_taken_bit l s) (extended l s)) outside))

adding_bits : (l : LayoutData) (s : SignalData) → has_signal l.signals s.name ≡ false → leb 64 (length l.signals) ≡ false → lies_inside l.words s ≡ true → add_signal l s ≡ adding false false true (first_taken_bit l s) (extended l s)
adding_bits l s fresh room inside =
    adding_is l s
    ∙ (ap (λ a. adding a (leb 64 (length l.signals)) (lies_inside l.words s) (first_taken_bit l s) (extended l s)) fresh
    ∙ (ap (λ b. adding false b (lies_inside l.words s) (first_taken_bit l s) (extended l s)) room
    ∙ ap (λ c. adding false false c (first_taken_bit l s) (extended l s)) inside))

adding_none : (o : Option (ℕ × List ℕ)) (l : LayoutData) → o ≡ None → adding false false true o l ≡ Ok l
unfolding ◌>>=◌ ◌>>◌ refuse◌when◌
adding_none o l e = ap (λ o. adding false false true o l) e

adding_some : (o : Option (ℕ × List ℕ)) (l : LayoutData) (e : Refusal) → bit_taken o ≡ Err e → adding false false true o l ≡ Err e
unfolding ◌>>=◌ ◌>>◌ refuse◌when◌
adding_some None l e h = cc
adding_some (Some taken) l e h = cc

-- the last question: is a bit taken?
pub add_last : {U : Type 0} (l : LayoutData) (s : SignalData) (r : Result U Refusal) → has_signal l.signals s.name ≡ false → leb 64 (length l.signals) ≡ false → lies_inside l.words s ≡ true →
    MatchResult r (λ _. first_taken_bit l s ≡ None) (λ e. bit_taken (first_taken_bit l s) ≡ Err e) → MatchResult r (λ _. IsOk (add_signal l s)) (λ e. add_signal l s ≡ Err e)
add_last l s (Ok x) fresh room inside free = ap is_ok (adding_bits l s fresh room inside ∙ adding_none (first_taken_bit l s) (extended l s) free)
add_last l s (Err e) fresh room inside taken = adding_bits l s fresh room inside ∙ adding_some (first_taken_bit l s) (extended l s) e taken

passed : (a b c : Bool) (o : Option (ℕ × List ℕ)) (l : LayoutData) → is_ok (adding a b c o l) ≡ true → (a ≡ false) × (b ≡ false) × (c ≡ true) × (o ≡ None)
unfolding ◌>>=◌ ◌>>◌ refuse◌when◌
passed true b c o l h = cc
passed false true c o l h = cc
passed false false false o l h = cc
passed false false true (Some taken) l h = cc
passed false false true None l h = (refl, refl, refl, refl)

pub admitted : (l : LayoutData) (s : SignalData) → IsOk (add_signal l s) → Admitted l s
admitted l s h =
    let facts = passed (has_signal l.signals s.name) (leb 64 (length l.signals)) (lies_inside l.words s) (first_taken_bit l s) (extended l s) (sym (ap is_ok (adding_is l s)) ∙ h) in
    record {
      fresh = facts.0;
      room = facts.1;
      inside = facts.2;
      free = facts.3;
      done = adding_bits l s facts.0 facts.1 facts.2 ∙ adding_none (first_taken_bit l s) (extended l s) facts.3;
    }

-- ---- the least bit that is taken

untaken : (l : LayoutData) (s : SignalData) (q : ℕ) → ¬ IsTaken s l.signals q → taken_test l s q ≡ false
unfolding taken_test
untaken l s q free = by_tests (uses s q) (is_some (user_of l.signals q)) refl refl
  where
    by_tests : (a b : Bool) → uses s q ≡ a → is_some (user_of l.signals q) ≡ b → (a && b) ≡ false
    by_tests false b e f = refl
    by_tests true false e f = refl
    by_tests true true e f = absurd (free (e, sym (is_some-user_of l.signals q) ∙ f))

pub taken_none : (l : LayoutData) (s : SignalData) → IsLeast (IsTaken s l.signals) None → first_taken_bit l s ≡ None
taken_none l s least = first_taken_is l s ∙ ap (option_and_then (taken_at l.signals)) (find_nothing (taken_test l s) 0 (16 * l.words) (λ q. untaken l s q (least.none q)))

-- a bit that the signal uses lies in the payload
pub bit_inside : (s : SignalData) (words p : ℕ) → IsTrue (lies_inside words s) → IsTrue (uses s p) → p < 16 * words
bit_inside s words p inside here =
    let entry = uses_entry s p here in
    omega (arith, entry.2, inside_below s words (16 * words) inside (omega arith) entry.0 0 (omega (arith, entry.1, length-bits_of s)))

pub taken_some : (l : LayoutData) (s t : SignalData) (p : ℕ) → IsTrue (lies_inside l.words s) → IsLeast (IsTaken s l.signals) (Some p) → user_of l.signals p ≡ Some t → bit_taken (first_taken_bit l s) ≡ Err (BitTaken p t.name)
unfolding taken_test
taken_some l s t p inside least user =
    let both : taken_test l s p ≡ true = ap (λ b. b && is_some (user_of l.signals p)) least.holds.0 ∙ (is_some-user_of l.signals p ∙ least.holds.1) in
    let found : find (taken_test l s) (range_with_len 0 (16 * l.words)) ≡ Some p =
    find_least (taken_test l s) p (16 * l.words) (bit_inside s l.words p inside least.holds.0) both (λ q less. untaken l s q (λ taken. absurd (omega (arith, less, least.below q taken)))) in
    ap bit_taken (first_taken_is l s ∙ (ap (option_and_then (taken_at l.signals)) found ∙ ap (option_map (λ s. (p, s.name))) user))

-- a bit that is taken has a user
pub has_user : (l : LayoutData) (s : SignalData) (p : ℕ) → IsTaken s l.signals p → user_of l.signals p ≡ None → ⊥
has_user l s p taken none = same (sym (is_some-user_of l.signals p ∙ taken.1) ∙ ap is_some none)
  where
    same : true ≡ false → ⊥
    same e = cc

-- ---- a layout with one signal more

pub sound_with : (l : LayoutData) (s : SignalData) → IsLayout l → Admitted l s → IsTrue (is_signal_length s.length) → IsLayout (extended l s)
sound_with l s sound passed long = with_signal-layout l s sound long passed.fresh (grind (arith, nat_tests, passed.room)) passed.inside passed.free

-- ---- a layout with one signal less

filter_all : {X : Type 0} (p : X → Bool) (xs : List X) → All (λ x. p x ≡ true) xs → filter p xs ≡ xs
filter_all p [] all = refl
filter_all p (x ∷ xs) all =
    ap (λ b. cond b (x ∷ filter p xs) (filter p xs)) (All-head (λ x. p x ≡ true) x xs all) ∙ ap (λ l. x ∷ l) (filter_all p xs (All-tail (λ x. p x ≡ true) x xs all))

differ : (a b : List ℕ) → a ≢ b → not (bytes_eq a b) ≡ true
differ a b n = by_test (bytes_eq a b) (bytes_eq-Decides a b).0
  where
    by_test : (t : Bool) → (t ≡ true → a ≡ b) → not t ≡ true
    by_test true h = absurd (n (h refl))
    by_test false h = refl

-- the one of that name is taken out
pub without_is : (xs : List SignalData) (i : ℕ) (name : List ℕ) (d : SignalData) → AllPairs (λ s t. s.name ≢ t.name) xs → i < length xs → (get_or xs i d).name ≡ name →
    filter (λ s. not (bytes_eq s.name name)) xs ≡ remove xs i
without_is [] i name d names within same = absurd (omega arith)
without_is (t ∷ xs) zero name d names within same =
    ap (λ b. cond (not b) (t ∷ filter (λ s. not (bytes_eq s.name name)) xs) (filter (λ s. not (bytes_eq s.name name)) xs)) ((bytes_eq-Decides t.name name).1 same)
    ∙ filter_all (λ s. not (bytes_eq s.name name)) xs (λ k e below. differ (get_or xs k e).name name (λ h. AllPairs-head (λ s t. s.name ≢ t.name) t xs names k e below (same ∙ sym h)))
without_is (t ∷ xs) (suc i) name d names within same =
    ap (λ b. cond b (t ∷ filter (λ s. not (bytes_eq s.name name)) xs) (filter (λ s. not (bytes_eq s.name name)) xs))
    (differ t.name name (λ h. AllPairs-head (λ s t. s.name ≢ t.name) t xs names i d (omega arith) (h ∙ sym same)))
    ∙ ap (λ l. t ∷ l) (without_is xs i name d (AllPairs-tail (λ s t. s.name ≢ t.name) t xs names) (omega arith) same)

pub sound_without : (l : LayoutData) (i : ℕ) (t : SignalData) → IsLayout l → i < length l.signals → t ≡ get_or l.signals i t → IsLayout (record l { signals = remove l.signals i })
sound_without l i t sound within at =
    let taken_out : filter (λ s. not (bytes_eq s.name t.name)) l.signals ≡ remove l.signals i = without_is l.signals i t.name t sound.names within (ap (λ (s : SignalData). s.name) (sym at)) in
    let Sound : List SignalData → Type 0 = λ xs. IsLayout (record l { signals = xs }) in
    subst Sound taken_out (filter-layout l (λ s. not (bytes_eq s.name t.name)) sound)

-- a search by position
position_ends : {X : Type 0} (p : X → Bool) (xs : List X) → length xs ≤ position_or_len p xs → list_any p xs ≡ false
position_ends p [] h = refl
position_ends p (x ∷ xs) h = by_test (p x) h (position_ends p xs)
  where
    by_test : (b : Bool) → length (x ∷ xs) ≤ cond (not b) (1 + position_or_len p xs) 0 → (length xs ≤ position_or_len p xs → list_any p xs ≡ false) → (b || list_any p xs) ≡ false
    by_test true h later = absurd (omega arith)
    by_test false h later = later (omega arith)

pub position_none : {X : Type 0} (p : X → Bool) (xs : List X) → None ≡ position p xs → list_any p xs ≡ false
position_none p xs e = position_ends p xs (by_test (ltb (position_or_len p xs) (length xs)) refl e)
  where
    by_test : (b : Bool) → ltb (position_or_len p xs) (length xs) ≡ b → None ≡ cond b (Some (position_or_len p xs)) None → length xs ≤ position_or_len p xs
    by_test true h e = cc
    by_test false h e = grind (arith, nat_tests)

-- the refusal of a removal
removing : Bool → LayoutData → Result LayoutData Refusal
removing found layout = do
  refuse NoSignal when (not found)
  Ok layout

removing_is : (l : LayoutData) (name : List ℕ) → remove_signal l name ≡ removing (has_signal l.signals name) (record l { signals = filter (λ s. not (bytes_eq s.name name)) l.signals })
unfolding remove_signal removing
removing_is l name = refl

pub remove_none : (l : LayoutData) (name : List ℕ) → has_signal l.signals name ≡ false → remove_signal l name ≡ Err NoSignal
unfolding removing ◌>>=◌ ◌>>◌ refuse◌when◌
remove_none l name none = removing_is l name ∙ ap (λ b. removing b (record l { signals = filter (λ s. not (bytes_eq s.name name)) l.signals })) none

pub remove_some : (l : LayoutData) (name : List ℕ) (i : ℕ) (t : SignalData) → IsLayout l → i < length l.signals → t ≡ get_or l.signals i t → t.name ≡ name → remove_signal l name ≡ Ok (record l { signals = remove l.signals i })
unfolding removing ◌>>=◌ ◌>>◌ refuse◌when◌
remove_some l name i t sound within at same =
    let named : (get_or l.signals i t).name ≡ name = ap (λ (s : SignalData). s.name) (sym at) ∙ same in
    removing_is l name
    ∙ (ap (λ b. removing b (record l { signals = filter (λ s. not (bytes_eq s.name name)) l.signals }))
    (list_any_at (λ s. bytes_eq s.name name) l.signals i t within ((bytes_eq-Decides (get_or l.signals i t).name name).1 named))
    ∙ ap (λ xs. Ok (record l { signals = xs })) (without_is l.signals i name t sound.names within named))

-- ---- the layout of no signals

pub sound_empty : (words : ℕ) (items : List SignalData) → words ≤ 127 → items ≡ [] → IsLayout (record { words = words; signals = items })
sound_empty words items small none =
    let Sound : List SignalData → Type 0 = λ xs. IsLayout (record { words = words; signals = xs }) in
    subst Sound (sym none) (empty-layout words small)

-- the signal is inserted at its place
pub inserted : (items seen new : List SignalData) (s : SignalData) (start len index : ℕ) (o : Option ℕ) (done : Bool) → seen ≡ items → start ≡ s.start →
    o ≡ position (λ t. ltb start t.start) seen → len ≡ length items → index ≡ unwrap_or o len → new ≡ cond done (insert items index s) items → done ≡ true → new ≡ with_signal s items
inserted items seen new s start len index o done same starts found size at is worked =
    let place : index ≡ position_or_len (λ t. ltb s.start t.start) items =
    at
    ∙ (ap (λ o. unwrap_or o len) (found ∙ (ap (λ n. position (λ (t : SignalData). ltb n t.start) seen) starts ∙ ap (position (λ (t : SignalData). ltb s.start t.start)) same))
    ∙ (ap (unwrap_or (position (λ (t : SignalData). ltb s.start t.start) items)) size ∙ place_of_position (λ (t : SignalData). ltb s.start t.start) items)) in
    is ∙ (ap (λ b. cond b (insert items index s) items) worked ∙ (ap (λ n. insert items n s) place ∙ with_signal_at s items))
