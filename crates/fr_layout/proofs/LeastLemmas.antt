-- The least number that has a property, found.
use Rattle.std.proofs.Common.{◌≡◌, ◌≢◌, ℕ, zero, suc, ◌+◌, ◌<◌, ◌≤◌, Bool, true, false, ◌&&◌, Some, refl, sym, ◌∙◌, ap, arith, eqb, cond, inl, inr, ◌⊎◌}
use Rattle.std.specs.List.{find, range_with_len}
use Rattle.std.proofs.lemmas.Bool.Decides.{eqb_tells}
use Rattle.fr_base.specs.Bits.{uses}
use Rattle.fr_base.specs.Signals.{SignalData}
use Rattle.fr_layout.specs.Least.{IsLeast}
use Rattle.fr_layout.specs.Used.{IsShared}

-- the first number of a range that passes a test is the least, where all that has the property lies there
module _ (P : ℕ → Type 0) (f : ℕ → Bool) (tells : (p : ℕ) → P p → f p ≡ true) (told : (p : ℕ) → f p ≡ true → P p) where
  pub first_is_least : (a n : ℕ) → ((p : ℕ) → P p → (a ≤ p) × (p < a + n)) → IsLeast P (find f (range_with_len a n))
  first_is_least a zero inside = record { none = λ p h. absurd (omega (arith, (inside p h).0, (inside p h).1)); holds = tt; below = tt }
  first_is_least a (suc n) inside = by_test (f a) refl (λ e. first_is_least (a + 1) n (above e))
    where
      above : f a ≡ false → (p : ℕ) → P p → (a + 1 ≤ p) × (p < a + 1 + n)
      above e p h = (later (eqb_tells a p), omega (arith, (inside p h).1))
        where
          later : ((eqb a p ≡ true) × (a ≡ p)) ⊎ ((eqb a p ≡ false) × (a ≢ p)) → a + 1 ≤ p
          later (inl same) = absurd (clash (sym (ap f same.1 ∙ tells p h) ∙ e))
            where
              clash : true ≡ false → ⊥
              clash e = cc
          later (inr other) = omega (arith, other.1, (inside p h).0)

      by_test : (b : Bool) → f a ≡ b → (f a ≡ false → IsLeast P (find f (range_with_len (a + 1) n))) → IsLeast P (cond b (Some a) (find f (range_with_len (a + 1) n)))
      by_test true e later = record { none = tt; holds = told a e; below = λ q h. (inside q h).0 }
      by_test false e later = later e

both : (a b : Bool) → a ≡ true → b ≡ true → (a && b) ≡ true
both true b h k = k
both false b h k = h

each : (a b : Bool) → (a && b) ≡ true → (a ≡ true) × (b ≡ true)
each true b h = (refl, h)
each false b h = cc

pub shared_is_least : (s t : SignalData) (a n : ℕ) → ((p : ℕ) → IsShared s t p → (a ≤ p) × (p < a + n)) → IsLeast (IsShared s t) (find (λ p. uses s p && uses t p) (range_with_len a n))
shared_is_least s t a n inside =
    first_is_least (IsShared s t) (λ p. uses s p && uses t p) (λ p h. both (uses s p) (uses t p) h.0 h.1) (λ p h. each (uses s p) (uses t p) h) a n inside
