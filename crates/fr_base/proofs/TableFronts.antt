-- Rows in order of which some are still to come: the next goes to the end, and it is not there yet.
use Rattle.std.proofs.Common.{◌≡◌, ◌≢◌, ℕ, suc, ◌+◌, ◌<◌, ◌≤◌, Bool, true, false, cond, nat_le, ◌&&◌, ◌||◌, List, [], ◌∷◌, ◌++◌, length, find, Option, Some, None, is_some, Ok, IsTrue, All, AllPairs, refl, ap, subst, ◌∙◌, inl, inr, arith, ltb, length-append, Less, ◌*◌}
use Rattle.std.specs.Prelude.{T}
use Rattle.std.specs.List.{AllByRecursion, list_any, range_with_len}
use Rattle.std.specs.Ordering.{is_eq, eq_by_cmp}
use Rattle.std.specs.FinMap.Entries.{put, is_sorted, below_all, by_order}
use Rattle.std.specs.FinMap.Entries.{find as find_entry}
use Rattle.std.proofs.lemmas.Bool.{cases_Bool}
use Rattle.std.proofs.lemmas.Bool.Decides.{nat_tests}
use Rattle.std.proofs.lemmas.List.Elements.{All-head, All-tail}
use Rattle.fr_base.specs.TableRows.{first, second}
use Rattle.fr_base.specs.Tables.{Order}
use Rattle.fr_base.specs.Names.{same_text}
use Rattle.fr_base.specs.Bits.{uses}
use Rattle.fr_base.specs.Signals.{SignalData}
use Rattle.fr_base.specs.Layouts.{LayoutData, IsLayout, AreApart, lies_inside, has_signal, user_of, taken_at, first_taken_bit, bit_taken, with_signal, admits_signal}
use Rattle.fr_base.specs.declared.limits.TheConstants.{MAX_SIGNALS}
use Rattle.fr_base.specs.declared.refusal.Refusal.TheVariants.{Exists, Limit, OutOfPayload}
use Rattle.fr_base.proofs.MergeLaws.{less, turned, found_first}
use Rattle.fr_base.proofs.SoundRows.{same_text-is}
use Rattle.fr_base.proofs.LayoutLaws.{is_some-user_of, AllPairs-head, AllPairs-tail, first_taken_is, taken_test}
use Rattle.fr_base.proofs.FrameRuns.{past_when, past_unless}

-- ---- rows of a table

module _ {K V : Type 0} (o : Order K) where
  -- what all that come later are above, the last is above too
  below-mid : (k j : K) (v : V) (xs ys : List (K × V)) → T (below_all o.compare k (xs ++ (j, v) ∷ ys)) → o.compare k j ≡ Less
  below-mid k j v [] ys h = less _ (first _ _ h)
  below-mid k j v (x ∷ xs) ys h = below-mid k j v xs ys (second _ _ h)

  -- the next goes to the end
  pub put-last : (k : K) (v : V) (xs ys : List (K × V)) → T (is_sorted o.compare (xs ++ (k, v) ∷ ys)) → put o.compare k v xs ≡ xs ++ (k, v) ∷ []
  put-last k v [] ys h = refl
  put-last k v (x ∷ xs) ys h =
      ap (λ r. by_order r ((k, v) ∷ x ∷ xs) ((x.0, v) ∷ xs) (x ∷ put o.compare k v xs)) (turned o x.0 k (below-mid x.0 k v xs ys (first _ _ h)))
      ∙ ap (λ l. x ∷ l) (put-last k v xs ys (second _ _ h))

  -- it is not there yet
  pub not_yet : (k : K) (v : V) (xs ys : List (K × V)) → T (is_sorted o.compare (xs ++ (k, v) ∷ ys)) → find_entry o.compare k xs ≡ None
  not_yet k v [] ys h = refl
  not_yet k v (x ∷ xs) ys h =
      ap (λ r. cond (is_eq r) (Some x.1) (find_entry o.compare k xs)) (turned o x.0 k (below-mid x.0 k v xs ys (first _ _ h)))
      ∙ not_yet k v xs ys (second _ _ h)

  -- it is there in the end
  pub there-mid : (k : K) (v : V) (xs ys : List (K × V)) → is_some (find_entry o.compare k (xs ++ (k, v) ∷ ys)) ≡ true
  there-mid k v [] ys = ap is_some (found_first o (k, v) ys)
  there-mid k v (x ∷ xs) ys = some_either (eq_by_cmp o.compare k x.0) x.1 (find_entry o.compare k (xs ++ (k, v) ∷ ys)) (there-mid k v xs ys)
    where
      some_either : (b : Bool) (w : V) (r : Option V) → is_some r ≡ true → is_some (cond b (Some w) r) ≡ true
      some_either true w r h = refl
      some_either false w r h = h

  -- and so is what was there before
  pub there-front : (k : K) (xs ys : List (K × V)) → is_some (find_entry o.compare k xs) ≡ true → is_some (find_entry o.compare k (xs ++ ys)) ≡ true
  there-front k [] ys h = cc
  there-front k (x ∷ xs) ys h = by (eq_by_cmp o.compare k x.0) h (there-front k xs ys)
    where
      by : (b : Bool) → is_some (cond b (Some x.1) (find_entry o.compare k xs)) ≡ true → (is_some (find_entry o.compare k xs) ≡ true → is_some (find_entry o.compare k (xs ++ ys)) ≡ true) →
          is_some (cond b (Some x.1) (find_entry o.compare k (xs ++ ys))) ≡ true
      by true h rest = refl
      by false h rest = rest h

-- ---- signals of a layout

module _ {X : Type 0} where
  mid-of : (P : X → Type 0) (xs : List X) (x : X) (ys : List X) → All P (xs ++ x ∷ ys) → P x
  mid-of P [] x ys all = All-head P x ys all
  mid-of P (z ∷ xs) x ys all = mid-of P xs x ys (All-tail P z (xs ++ x ∷ ys) all)

  before-mid : (R : X → X → Type 0) (xs : List X) (x : X) (ys : List X) → AllPairs R (xs ++ x ∷ ys) → AllByRecursion (λ z. R z x) xs
  before-mid R [] x ys pairs = tt
  before-mid R (z ∷ xs) x ys pairs =
      (mid-of (R z) xs x ys (AllPairs-head R z (xs ++ x ∷ ys) pairs), before-mid R xs x ys (AllPairs-tail R z (xs ++ x ∷ ys) pairs))

none_named : (name : List ℕ) (xs : List SignalData) → AllByRecursion (λ z. z.name ≢ name) xs → has_signal xs name ≡ false
none_named name [] h = refl
none_named name (z ∷ xs) h = elim (cases_Bool (same_text z.name name)) [
  | inl same ↦ absurd (h.0 (same_text-is z.name name same))
  | inr other ↦ ap (λ t. t || has_signal xs name) other ∙ none_named name xs h.1
]

none_uses : (x : SignalData) (p : ℕ) (xs : List SignalData) → AllByRecursion (λ z. AreApart z x) xs → uses x p ≡ true → list_any (λ z. uses z p) xs ≡ false
none_uses x p [] h here = refl
none_uses x p (z ∷ xs) h here = elim (cases_Bool (uses z p)) [
  | inl there ↦ absurd (h.0 p there here)
  | inr other ↦ ap (λ t. t || list_any (λ y. uses y p) xs) other ∙ none_uses x p xs h.1 here
]

find_none : (f : ℕ → Bool) (xs : List ℕ) → ((p : ℕ) → f p ≡ false) → find f xs ≡ None
find_none f [] h = refl
find_none f (x ∷ xs) h = ap (λ t. cond t (Some x) (find f xs)) (h x) ∙ find_none f xs h

no_bit : (words : ℕ) (x : SignalData) (xs : List SignalData) → AllByRecursion (λ z. AreApart z x) xs → first_taken_bit (record { words = words; signals = xs }) x ≡ None
unfolding taken_test
no_bit words x xs apart =
    let l : LayoutData = record { words = words; signals = xs } in
    first_taken_is l x ∙ ap (λ o. elim o as (λ _. Option (ℕ × List ℕ)) [ Some q ↦ taken_at xs q | None ↦ None ]) (find_none (taken_test l x) (range_with_len 0 (16 * words)) (λ p. elim (cases_Bool (uses x p)) [
      | inl here ↦ ap (λ t. t && is_some (user_of xs p)) here ∙ is_some-user_of xs p ∙ none_uses x p xs apart here
      | inr free ↦ ap (λ t. t && is_some (user_of xs p)) free
    ]))

-- the next of the signals goes to the end
pub with_signal-last : (x : SignalData) (xs : List SignalData) → AllByRecursion (λ z. z.start < x.start) xs → with_signal x xs ≡ xs ++ x ∷ []
with_signal-last x [] h = refl
with_signal-last x (z ∷ xs) h =
    ap (λ t. cond t (x ∷ z ∷ xs) (z ∷ with_signal x xs)) (later z.start x.start h.0) ∙ ap (λ l. z ∷ l) (with_signal-last x xs h.1)
  where
    later : (a c : ℕ) → a < c → ltb c a ≡ false
    later a c below = grind (arith, nat_tests)

not_full : (m n : ℕ) → m + suc n ≤ 64 → nat_le 64 m ≡ false
not_full m n h = grind (arith, nat_tests)

pub signal-last : (words : ℕ) (xs : List SignalData) (x : SignalData) (ys : List SignalData) → IsLayout (record { words = words; signals = xs ++ x ∷ ys }) → with_signal x xs ≡ xs ++ x ∷ []
signal-last words xs x ys sound = with_signal-last x xs (before-mid (λ z u. z.start < u.start) xs x ys sound.rising)

-- and nothing refuses it
pub admits-next : (words : ℕ) (xs : List SignalData) (x : SignalData) (ys : List SignalData) → IsLayout (record { words = words; signals = xs ++ x ∷ ys }) →
    admits_signal (record { words = words; signals = xs }) x ≡ Ok tt
unfolding admits_signal
admits-next words xs x ys sound =
    past_when Exists (has_signal xs x.name) _ (none_named x.name xs (before-mid (λ z u. z.name ≢ u.name) xs x ys sound.names))
    ∙ past_when Limit (nat_le MAX_SIGNALS (length xs)) _ (not_full (length xs) (length ys) (subst (λ n. n ≤ 64) (length-append xs (x ∷ ys)) sound.count))
    ∙ past_unless OutOfPayload (lies_inside words x) _ (mid-of (λ z. IsTrue (lies_inside words z)) xs x ys sound.inside)
    ∙ ap bit_taken (no_bit words x xs (before-mid AreApart xs x ys sound.apart))
