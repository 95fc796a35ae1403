-- A trial leaves the book, and so does a proposal.
use Rattle.std.proofs.Common.{Bool, IfOk}
use Rattle.fr_base.specs.Tables.{get}
use Rattle.fr_base.specs.Book.{Book}
use Rattle.fr_base.specs.Step.{try, propose}
use Rattle.fr_base.specs.declared.params.Params.{Params}
use Rattle.fr_base.specs.declared.delivery.Delivery.{Delivery}
use Rattle.fr_base.specs.declared.delivery.Manner.{Manner}
use Rattle.fr_base.proofs.SoundRefusing.{gives_or, gives_when}

module _ (P : Book → Type 0) (b : Book) (holds : P b) where
  -- what holds of the book holds after it
  pub trial-leaves : (p : Params) (t : Delivery) (how : Manner) → IfOk (try p b t how) (λ o. P o.book)
  unfolding try
  trial-leaves p t how =
      gives_or _ (get b.variants t.variant) _ _ (λ x _.
      gives_when _ _ _ _ (λ _.
      gives_when _ _ _ _ (λ _. holds)))

  pub proposal-leaves : (p : Params) (d : Delivery) (replace : Bool) → IfOk (propose p b d replace) (λ o. P o.book)
  unfolding propose
  proposal-leaves p d replace =
      gives_or _ (get b.variants d.variant) _ _ (λ x _.
      gives_when _ _ _ _ (λ _.
      gives_when _ _ _ _ (λ _. holds)))
