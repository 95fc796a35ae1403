-- An import's label decides before all else that refuses it.
use Rattle.std.proofs.Common.{◌≡◌, Bool, true, false, ◌&&◌, not, Option, Some, None, Ok, refl}
use Rattle.fr_base.specs.Refusing.{◌>>=◌, ◌>>◌, refuse◌when◌}
use Rattle.fr_base.specs.Names.{same_text}
use Rattle.fr_base.specs.Book.{Kept, Book}
use Rattle.fr_base.specs.Step.{import}
use Rattle.fr_base.specs.declared.answer.Answer.TheVariants.{Imported}
use Rattle.fr_base.specs.declared.name.Name.{Name}
use Rattle.fr_base.specs.declared.params.Params.{Params}
use Rattle.fr_base.specs.declared.refusal.Refusal.TheVariants.{LabelUsed}
use Rattle.fr_base.specs.declared.delivery.Delivery.{Delivery}
use Rattle.fr_world.specs.ImportLabels.{after_label, label_decision}

module _ (p : Params) (b : Book) (i : Delivery) (label : Name) where
  kept-again : (kept : Kept) (other : Bool) →
      ((refuse LabelUsed when other) >> Ok (record { book = b; answer = Imported kept.rows })) ≡ (((refuse LabelUsed when other) >> Ok (Some kept.rows)) >>= after_label p b i label)
  unfolding refuse◌when◌ ◌>>◌ ◌>>=◌
  kept-again kept true = refl
  kept-again kept false = refl

  pub label-decides : (kept : Option Kept) → import p b i label kept ≡ (label_decision kept i >>= after_label p b i label)
  unfolding import label_decision ◌>>=◌
  label-decides None = refl
  label-decides (Some kept) = kept-again kept (not (same_text kept.variant i.variant && same_text kept.body i.body))
