-- A supplier's proposal, over all rows and over its own.
use Rattle.std.proofs.Common.{◌≡◌, Bool, false, length, Result, Ok, refl, sym, ap, nat_lt}
use Rattle.fr_base.specs.Tables.{get}
use Rattle.fr_base.specs.Cluster.{Cluster}
use Rattle.fr_base.specs.Book.{Book}
use Rattle.fr_base.specs.Wishes.{wishes_of_body}
use Rattle.fr_base.specs.OwnRows.{OwnRows}
use Rattle.fr_base.specs.Proposals.{proposal}
use Rattle.fr_base.specs.Step.{Outcome, propose}
use Rattle.fr_base.specs.Alone.{own_variant, rows_of}
use Rattle.fr_base.specs.declared.limits.TheConstants.{MAX_IMPORT_BYTES}
use Rattle.fr_base.specs.declared.answer.Answer.TheVariants as answer
use Rattle.fr_base.specs.declared.answer.ReportRows.TheVariants as shows
use Rattle.fr_base.specs.declared.delivery.Delivery.{Delivery}
use Rattle.fr_base.specs.declared.refusal.Refusal.{Refusal}
use Rattle.fr_base.specs.declared.refusal.Refusal.TheVariants.{NoVariant, Released, Limit}
use Rattle.fr_base.proofs.AloneRefusing.{map_ok, alike_or, alike_when}
use Rattle.fr_base.proofs.AloneRows.{rows_of-variant, own_rows-own}
use Rattle.fr_base.proofs.AloneOutcomes.{seen}

module _ (d : Delivery) (replace : Bool) where
  abbrev LikeOutcome : Result Outcome Refusal → Result Outcome Refusal → Type 0
  LikeOutcome u w = map_ok (seen d.supplier) u ≡ w

  abbrev told : Cluster → Book → OwnRows → Outcome
  told c b own = record { book = b; answer = answer.Report false (shows.Proposal replace (proposal own replace (wishes_of_body c.params d.body))) }

  -- it is answered as alone: by the supplier's own rows
  pub propose-own : (c : Cluster) (b : Book) → LikeOutcome (propose c.params b d replace) (propose c.params (rows_of d.supplier b) d replace)
  unfolding propose seen own_variant
  propose-own c b =
      let s = d.supplier in
      alike_or LikeOutcome (λ e. refl) (own_variant s) (get b.variants d.variant) _ (rows_of-variant s b d.variant) NoVariant _ _ (λ x found.
      alike_when LikeOutcome (λ e. refl) Released x.released _ refl _ _ (λ _.
      alike_when LikeOutcome (λ e. refl) Limit (nat_lt MAX_IMPORT_BYTES (length d.body)) _ refl _ _ (λ _.
      ap (λ own. Ok (told c (rows_of s b) own)) (sym (own_rows-own s c.params b x)))))
