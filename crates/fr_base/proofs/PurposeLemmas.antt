-- What a proof about what a file is delivered for cites: what comes of the label of an import comes of the purpose.
use Rattle.std.proofs.Common.{◌≡◌, Result, Ok, Err, refl, ap}
use Rattle.std.specs.Prelude.{MatchResult}
use Rattle.fr_base.specs.Refusing.{◌>>=◌}
use Rattle.fr_base.specs.QueryNames.{IsPurposeRead, purpose_with}
use Rattle.fr_base.specs.declared.delivery.Purpose.{Purpose}
use Rattle.fr_base.specs.declared.delivery.Purpose.TheVariants.{Import, Replacement, Trial, Proposal}

module _ {N A E : Type 0} (reads : N → Result A E → Type 0) where
  pub label_read : (label : N) (l : A) → reads label (Ok l) → IsPurposeRead reads (Import label) (Ok (Import l))
  unfolding IsPurposeRead ◌>>=◌
  label_read label l read = (Ok l, read, refl)

  pub label_unread : (label : N) (e : E) → reads label (Err e) → IsPurposeRead {A = A} reads (Import label) (Err e)
  unfolding IsPurposeRead ◌>>=◌
  label_unread label e unread = (Err e, unread, refl)

-- where a reader makes this of a label, it makes the same of the purpose; `Lacks` says why it makes nothing
module _ {N A E : Type 0} (f : N → A) (Lacks : E → Type 0) where
  abbrev pub Makes : {X Y : Type 0} → (X → Y) → X → Result Y E → Type 0
  Makes h word result = MatchResult result (λ made. made ≡ h word) Lacks

  pub purpose_made : (how : Purpose N) (result : Result (Purpose A) E) → IsPurposeRead (Makes f) how result → Makes (purpose_with f) how result
  unfolding IsPurposeRead ◌>>=◌
  purpose_made (Import label) result (Ok l, made, is) = rw is (ap Import made)
  purpose_made (Import label) result (Err e, lacks, is) = rw is lacks
  purpose_made (Replacement whole) result is = rw is refl
  purpose_made (Trial manner) result is = rw is refl
  purpose_made (Proposal replace) result is = rw is refl
