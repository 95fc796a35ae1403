-- Writes one after another.
use Rattle.std.proofs.Common.{◌≡◌, ◌≢◌, ℕ, inl, inr, ◌∙◌, zero, suc, ◌<◌, cond, arith, Bool, true, false, List, [], ◌∷◌, length, Result, Ok, Err, sym, subst, refl}
use Rattle.std.proofs.lemmas.Bool.Decides.{eqb_tells}
use Rattle.std.specs.Prelude.{◌==◌, ⊤}
use Rattle.std.specs.declared.io.Error.{Error}
use Rattle.fr_text.specs.declared.output.WriteFailed.{WriteFailed}
use Rattle.fr_text.specs.Writing.{AreWrites, Ends, Fails, GoesOn, IsWriting, Progress, Writes}

pub differ : true ≡ false → ⊥
differ e = subst (λ (b : Bool). cond b (Unit {0}) ⊥) e tt

empty_of : (xs : List ℕ) → length xs ≡ 0 → xs ≡ []
empty_of [] e = refl
empty_of (x ∷ xs) e = absurd (omega (arith, e))

pub nothing : (xs : List ℕ) → true ≡ (length xs == 0) → xs ≡ []
nothing xs e = elim (eqb_tells (length xs) 0) [ inl same ↦ empty_of xs same.1 | inr other ↦ absurd (differ (e ∙ other.0)) ]

pub something : (xs : List ℕ) → false ≡ (length xs == 0) → xs ≢ []
something [] e = λ none. absurd cc
something (x ∷ xs) e = λ none. absurd cc

-- a write that is not tried again though it was interrupted: no retry is left
pub none_left : (retries : ℕ) (K : Type 0) → (K × 0 < retries → ⊥) → K → retries ≡ 0
none_left zero K ends k = refl
none_left (suc n) K ends k = absurd (ends (k, omega arith))

module _ {W : Type 0} (writes : Writes W) where
  -- one write more
  pub write_more : (count : ℕ) (from mid to : Progress W) (given : Result ℕ Error) → AreWrites writes count from mid → writes mid.writer mid.rest given to.writer → GoesOn given mid to
      → AreWrites writes (suc count) from to
  write_more count from mid to given made went on = (mid, made, (given, went, on))

  -- all is written
  pub all_written : (count : ℕ) (from to : Progress W) (done : Result ⊤ WriteFailed) (last : W) (left : ℕ) → AreWrites writes count from to → done ≡ Ok tt → to.rest ≡ []
      → last ≡ to.writer → to.retries ≡ left → IsWriting writes from done last left
  all_written count from to done last left made is none same spent =
      record { count = count; to = to; made = made; ends = subst (λ d. Ends writes to d last) (sym is) (none, same); spent = spent }

  -- a write failed
  pub one_failed : (count : ℕ) (from to : Progress W) (failed : WriteFailed) (done : Result ⊤ WriteFailed) (last : W) (left : ℕ) (given : Result ℕ Error) → AreWrites writes count from to → done ≡ Err failed
      → to.rest ≢ [] → writes to.writer to.rest given last → Fails to.retries given → to.retries ≡ left → IsWriting writes from done last left
  one_failed count from to failed done last left given made is more went fails spent = record {
    count = count;
    to = to;
    made = made;
    ends = subst (λ d. Ends writes to d last) (sym is) (more, (given, went, fails));
    spent = spent;
  }
