-- Signals that make a layout with one more, so that it is added; and signals of which one is removed.
use Rattle.std.proofs.Common.{◌≡◌, ◌≢◌, ℕ, ◌*◌, ◌<◌, Bool, true, false, not, ◌&&◌, ◌||◌, cond, List, [], ◌∷◌, length, Some, None, is_some, Result, Ok, Err, refl, sym, ap, subst, ◌∙◌, arith, ltb, All, AllPairs, IsTrue}
use Rattle.std.specs.List.{list_any, range_with_len, find}
use Rattle.std.specs.Option.{option_and_then}
use Rattle.std.specs.Prelude.{nat_le, MatchResult}
use Rattle.std.specs.Str.{bytes_eq}
use Rattle.std.proofs.lemmas.Bool.{leb-true}
use Rattle.std.proofs.lemmas.List.Elements.{All-cons, All-head, All-tail}
use Rattle.std.proofs.lemmas.Slice.Eq.{bytes_eq-Decides}
use Rattle.fr_base.specs.declared.limits.TheConstants.{MAX_SIGNALS}
use Rattle.fr_base.specs.Refusing.{◌>>◌, refuse◌when◌}
use Rattle.fr_base.specs.Signals.{SignalData}
use Rattle.fr_base.specs.Bits.{uses}
use Rattle.fr_base.specs.Layouts.{LayoutData, IsLayout, AreApart, lies_inside, has_signal, user_of, taken_at, first_taken_bit, with_signal, without_signal, admits_signal, add_signal, remove_signal}
use Rattle.fr_base.specs.declared.refusal.Refusal.{Refusal}
use Rattle.fr_base.specs.declared.refusal.Refusal.TheVariants.{NoSignal}
use Rattle.fr_base.proofs.LayoutLaws.{AllPairs-head, AllPairs-tail, is_some-user_of, length-with_signal}

-- ---- what holds with a signal more, holds of that signal

here : (P : SignalData → Type 0) (s : SignalData) (xs : List SignalData) → All P (with_signal s xs) → P s
here P s [] all = All-head P s [] all
here P s (t ∷ xs) all = by_test (ltb s.start t.start) all (here P s xs)
  where
    by_test : (b : Bool) → All P (cond b (s ∷ t ∷ xs) (t ∷ with_signal s xs)) → (All P (with_signal s xs) → P s) → P s
    by_test true h rest = All-head P s (t ∷ xs) h
    by_test false h rest = rest (All-tail P t (with_signal s xs) h)

others : (R : SignalData → SignalData → Type 0) → ((x y : SignalData) → R x y → R y x) → (s : SignalData) (xs : List SignalData) → AllPairs R (with_signal s xs) → All (R s) xs
others R turned s [] pairs = λ k d h. absurd (omega arith)
others R turned s (t ∷ xs) pairs = by_test (ltb s.start t.start) pairs (others R turned s xs)
  where
    by_test : (b : Bool) → AllPairs R (cond b (s ∷ t ∷ xs) (t ∷ with_signal s xs)) → (AllPairs R (with_signal s xs) → All (R s) xs) → All (R s) (t ∷ xs)
    by_test true h rest = AllPairs-head R s (t ∷ xs) h
    by_test false h rest =
        All-cons (R s) t xs
        (turned t s (here (R t) s xs (AllPairs-head R t (with_signal s xs) h)))
        (rest (AllPairs-tail R t (with_signal s xs) h))

-- ---- the refusals of `add` do not apply

none_has : {X : Type 0} (p : X → Bool) (xs : List X) → All (λ x. p x ≡ false) xs → list_any p xs ≡ false
none_has p [] h = refl
none_has p (x ∷ xs) h = ap (λ b. b || list_any p xs) (All-head (λ x. p x ≡ false) x xs h) ∙ none_has p xs (All-tail (λ x. p x ≡ false) x xs h)

not_true : (b : Bool) → (b ≡ true → ⊥) → b ≡ false
not_true true h = absurd (h refl)
not_true false h = refl

other_name : (s : SignalData) (xs : List SignalData) → All (λ t. s.name ≢ t.name) xs → has_signal xs s.name ≡ false
other_name s xs h = none_has (λ t. bytes_eq t.name s.name) xs (λ k d within. not_true _ (λ e. h k d within (sym ((bytes_eq-Decides _ s.name).0 e))))

find_none : (p : ℕ → Bool) (xs : List ℕ) → ((x : ℕ) → p x ≡ false) → find p xs ≡ None
find_none p [] h = refl
find_none p (x ∷ xs) h = ap (λ b. cond b (Some x) (find p xs)) (h x) ∙ find_none p xs h

not_both : (a b : Bool) → (a ≡ true → b ≡ false) → (a && b) ≡ false
not_both true b h = h refl
not_both false b h = refl

free : (l : LayoutData) (s : SignalData) → All (AreApart s) l.signals → first_taken_bit l s ≡ None
unfolding first_taken_bit
free l s apart =
    ap (option_and_then (taken_at l.signals))
    (find_none (λ p. uses s p && is_some (user_of l.signals p)) (range_with_len 0 (16 * l.words)) (λ p.
    not_both (uses s p) (is_some (user_of l.signals p)) (λ used.
    is_some-user_of l.signals p ∙ none_has (λ t. uses t p) l.signals (λ k d within. not_true _ (λ e. apart k d within p used e)))))

room : (n : ℕ) → n < MAX_SIGNALS → nat_le MAX_SIGNALS n ≡ false
room n h = not_true _ (λ e. omega (arith, leb-true MAX_SIGNALS n e))

added : (l : LayoutData) (s : SignalData) → has_signal l.signals s.name ≡ false → nat_le MAX_SIGNALS (length l.signals) ≡ false → lies_inside l.words s ≡ true → first_taken_bit l s ≡ None →
    add_signal l s ≡ Ok (record l { signals = with_signal s l.signals })
unfolding add_signal admits_signal ◌>>◌ refuse◌when◌
added l s fresh few inside free =
    let rest : Result LayoutData Refusal = Ok (record l { signals = with_signal s l.signals }) in
    rw (fresh, few, inside, free)

pub add_takes : (l : LayoutData) (s : SignalData) → IsLayout (record l { signals = with_signal s l.signals }) → add_signal l s ≡ Ok (record l { signals = with_signal s l.signals })
add_takes l s h =
    added l s
    (other_name s l.signals (others (λ t u. t.name ≢ u.name) (λ x y n e. n (sym e)) s l.signals h.names))
    (room (length l.signals) (omega (arith, h.count, length-with_signal s l.signals)))
    (here (λ t. IsTrue (lies_inside l.words t)) s l.signals h.inside)
    (free l s (others AreApart (λ x y apart p a b. apart p b a) s l.signals h.apart))

-- ---- what is left where a signal was removed, or was not there

abbrev without : LayoutData → List ℕ → LayoutData
without l name = record l { signals = without_signal name l.signals }

none_left_out : (name : List ℕ) (xs : List SignalData) → has_signal xs name ≡ false → without_signal name xs ≡ xs
none_left_out name [] h = refl
none_left_out name (x ∷ xs) h = by_test (bytes_eq x.name name) h (none_left_out name xs)
  where
    by_test : (b : Bool) → (b || has_signal xs name) ≡ false → (has_signal xs name ≡ false → without_signal name xs ≡ xs) →
        cond (not b) (x ∷ without_signal name xs) (without_signal name xs) ≡ x ∷ xs
    by_test true h rest = cc
    by_test false h rest = ap (λ ys. x ∷ ys) (rest h)

abbrev Leaves : LayoutData → List ℕ → Result LayoutData Refusal → Type 0
Leaves l name r = MatchResult r (λ m. m ≡ without l name) (λ e. l ≡ without l name)

leaves : (l : LayoutData) (name : List ℕ) → Leaves l name (remove_signal l name)
unfolding remove_signal ◌>>◌ refuse◌when◌
leaves l name =
    elim (has_signal l.signals name) as (λ b. has_signal l.signals name ≡ b → Leaves l name ((refuse NoSignal when (not b)) >> Ok (without l name))) [
      | true ↦ λ found. refl
      | false ↦ λ absent. ap (λ xs. record { words = l.words; signals = xs }) (sym (none_left_out name l.signals absent))
    ] refl

pub remove_takes : (l m : LayoutData) (name : List ℕ) → remove_signal l name ≡ Ok m → m ≡ without l name
remove_takes l m name e = subst (Leaves l name) e (leaves l name)

pub remove_keeps : (l m : LayoutData) (name : List ℕ) (e : Refusal) → remove_signal l name ≡ Err e → m ≡ l → m ≡ without l name
remove_keeps l m name e refused same = same ∙ subst (Leaves l name) refused (leaves l name)
