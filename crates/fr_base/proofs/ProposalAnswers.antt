-- What a supplier is answered of a proposal.
use Rattle.std.proofs.Common.{◌≡◌, ◌∙◌, ℕ, Bool, true, false, cond, List, length, nat_lt, Option, Some, None, Ok, IsTrue, refl}
use Rattle.fr_base.specs.Refusing.{◌>>=◌, ◌>>◌, ◌or◌, refuse◌when◌}
use Rattle.fr_base.specs.Tables.{get}
use Rattle.fr_base.specs.Names.{is_name}
use Rattle.fr_base.specs.Checks.{asking, name, purpose, check}
use Rattle.fr_base.specs.Cluster.{Cluster}
use Rattle.fr_base.specs.Book.{Variant, Book}
use Rattle.fr_base.specs.OwnRows.{own_rows}
use Rattle.fr_base.specs.Wishes.{wishes_of_body}
use Rattle.fr_base.specs.Proposals.{proposal}
use Rattle.fr_base.specs.Step.{propose, act, deliver, outcome}
use Rattle.fr_base.specs.ProposalLaws.{proposal_told, ProposalIsTold}
use Rattle.fr_base.specs.declared.limits.TheConstants.{MAX_IMPORT_BYTES}
use Rattle.fr_base.specs.declared.answer.Answer.{Answer}
use Rattle.fr_base.specs.declared.answer.Answer.TheVariants.{Report, Refused}
use Rattle.fr_base.specs.declared.answer.ReportRows.TheVariants as rows
use Rattle.fr_base.specs.declared.name.Name.{Name}
use Rattle.fr_base.specs.declared.refusal.Refusal.TheVariants.{NoVariant, Released, Limit}
use Rattle.fr_base.specs.declared.actor.Actor.TheVariants.{Supplier}
use Rattle.fr_base.specs.declared.request.Request.TheVariants as request
use Rattle.fr_base.specs.declared.delivery.Delivery.{Delivery}
use Rattle.fr_base.specs.declared.request.Checked.TheVariants as checked
use Rattle.fr_base.specs.declared.delivery.Purpose.TheVariants as purpose
use Rattle.fr_base.proofs.QuerySteps.{acts}

module _ (c : Cluster) (b : Book) (s v : Name) (body : List ℕ) (replace : Bool) where
  abbrev asked : Delivery
  asked = record { supplier = s; variant = v; how = purpose.Proposal replace; body = body }

  by_tests : (frozen long : Bool) (told : Answer) →
      outcome b ((refuse Released when frozen) >> ((refuse Limit when long) >> Ok (record { book = b; answer = told })))
      ≡ record { book = b; answer = cond frozen (Refused Released) (cond long (Refused Limit) told) }
  unfolding outcome ◌>>◌ refuse◌when◌
  by_tests true long told = refl
  by_tests false true told = refl
  by_tests false false told = refl

  abbrev told_of : Variant → Answer
  told_of x = Report false (rows.Proposal replace (proposal (own_rows c.params b s x) replace (wishes_of_body c.params body)))

  by_variant : (o : Option Variant) →
      outcome b ((o or NoVariant) >>= λ x.
      (refuse Released when x.released) >> ((refuse Limit when nat_lt MAX_IMPORT_BYTES (length body)) >> Ok (record { book = b; answer = told_of x })))
      ≡ record { book = b; answer = proposal_told c.params replace b s body o }
  unfolding outcome ◌or◌ ◌>>=◌
  by_variant None = refl
  by_variant (Some x) = by_tests x.released (nat_lt MAX_IMPORT_BYTES (length body)) (told_of x)

  asked-checked : IsTrue (is_name v) → check c.params (Supplier s) (request.Deliver v (purpose.Proposal replace) body) ≡ Ok (checked.Deliver asked)
  unfolding check purpose asking name ◌>>=◌
  asked-checked named = rw named refl

  act-told : outcome b (act c b (Supplier s) (checked.Deliver asked)) ≡ record { book = b; answer = proposal_told c.params replace b s body (get b.variants v) }
  unfolding act deliver propose
  act-told = by_variant (get b.variants v)

pub is-told : ProposalIsTold
is-told c b s v body replace known named =
    acts c b (Supplier s) (request.Deliver v (purpose.Proposal replace) body) (checked.Deliver (asked c b s v body replace)) known (asked-checked c b s v body replace named)
    ∙ act-told c b s v body replace
