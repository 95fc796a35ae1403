-- What one supplier has of an outcome.
use Rattle.std.proofs.Common.{◌≡◌, Result, Ok, Err, IfOk, refl, ap, ◌∙◌}
use Rattle.std.specs.Prelude.{⊤}
use Rattle.fr_base.specs.Refusing.{◌>>=◌, ◌>>◌}
use Rattle.fr_base.specs.Book.{Book}
use Rattle.fr_base.specs.Step.{Outcome, done, outcome}
use Rattle.fr_base.specs.Alone.{rows_of}
use Rattle.fr_base.specs.declared.name.Name.{Name}
use Rattle.fr_base.specs.declared.refusal.Refusal.{Refusal}
use Rattle.fr_base.proofs.AloneRefusing.{map_ok}
use Rattle.fr_base.proofs.AloneChanges.{unless}

-- what the supplier has of an outcome
unfoldable pub seen : Name → Outcome → Outcome
seen s o = record { book = rows_of s o.book; answer = o.answer }

module _ (s : Name) (b : Book) where
  pub outcome-own : (r : Result Outcome Refusal) → outcome (rows_of s b) (map_ok (seen s) r) ≡ seen s (outcome b r)
  unfolding outcome seen
  outcome-own (Ok o) = refl
  outcome-own (Err e) = refl

  pub outcome-still : (r : Result Outcome Refusal) → IfOk r (λ o. rows_of s o.book ≡ rows_of s b) → rows_of s (outcome b r).book ≡ rows_of s b
  unfolding outcome
  outcome-still (Ok o) h = h
  outcome-still (Err e) h = refl

  pub answer-seen : (d : Book) (r : Result Outcome Refusal) → (outcome b r).answer ≡ (outcome d (map_ok (seen s) r)).answer
  unfolding outcome seen
  answer-seen d (Ok o) = refl
  answer-seen d (Err e) = refl

module _ (s : Name) where
  seen-done : (r : Result Book Refusal) → map_ok (seen s) (done r) ≡ done (map_ok (rows_of s) r)
  unfolding seen done ◌>>=◌
  seen-done (Ok x) = refl
  seen-done (Err e) = refl

  done-unless : (t : Result ⊤ Refusal) (u : Result Book Refusal) → done (u >>= unless t) ≡ (done u >>= unless t)
  unfolding unless done ◌>>=◌ ◌>>◌
  done-unless (Ok x) (Ok d) = refl
  done-unless (Err e) (Ok d) = refl
  done-unless t (Err e) = refl

  -- what is done alike to the supplier's rows has a like outcome
  pub done-own : (t : Result ⊤ Refusal) (r u : Result Book Refusal) → map_ok (rows_of s) r ≡ (u >>= unless t) → map_ok (seen s) (done r) ≡ (done u >>= unless t)
  done-own t r u alike = seen-done r ∙ ap done alike ∙ done-unless t u
