-- What who asks is told of the variants.
use Rattle.std.proofs.Common.{◌≡◌, Bool, true, false, Result, Ok, Err, refl, sym, ap, ◌∙◌, inl, inr}
use Rattle.std.specs.Prelude.{Vec}
use Rattle.std.specs.declared.alloc.Global.{Global}
use Rattle.fr_base.specs.Refusing.{◌>>◌, refuse◌when◌}
use Rattle.fr_base.specs.Cluster.{Cluster, ClusterFile}
use Rattle.fr_base.specs.Book.{Book, file_of}
use Rattle.fr_base.specs.Step.{knows}
use Rattle.fr_base.specs.declared.actor.Actor.{Actor}
use Rattle.fr_base.specs.declared.refusal.Refusal.{Refusal}
use Rattle.fr_base.specs.declared.refusal.Refusal.TheVariants.{UnknownKey}
use Rattle.fr_world.specs.BookEdits.{variants_in}
use Rattle.fr_base.specs.declared.answer.VariantRow.{VariantRow}
use Rattle.fr_world.specs.Held.{Standing, Tells}
use Rattle.fr_office.specs.Answers.{is_known}
use Rattle.fr_office.specs.Listing.{Lists, variants_told}
use Rattle.fr_office.proofs.StepLaws.{known-so}

told_nothing : (b : Book) (actor : Actor) → knows b actor ≡ false → variants_told b actor ≡ Err UnknownKey
unfolding variants_told ◌>>◌ refuse◌when◌
told_nothing b actor unknown = rw unknown refl

told_all : (b : Book) (actor : Actor) → knows b actor ≡ true → variants_told b actor ≡ Ok (variants_in b)
unfolding variants_told ◌>>◌ refuse◌when◌
told_all b actor known = rw known refl

module _ (now : Standing) (config : ClusterFile) (same : (c : Cluster) (b : Book) → now c b → config ≡ file_of c b) (actor : Actor) where
  knows_so : (t : Bool) → is_known config actor ≡ t → (c : Cluster) (b : Book) → now c b → knows b actor ≡ t
  knows_so t is c b stood = known-so c b actor ∙ ap (λ k. is_known k actor) (sym (same c b stood)) ∙ is

  -- who asks is not there
  pub lists_nothing : is_known config actor ≡ false → Lists now now actor (Err UnknownKey)
  lists_nothing is c b stood = (stood, inl (told_nothing b actor (knows_so false is c b stood)))

  -- who asks is there
  pub lists_all : is_known config actor ≡ true → (new : Standing) (r : Result (Vec VariantRow Global) Refusal)
      → Tells now new r (λ _ b rows. rows.items ≡ variants_in b) → Lists now new actor r
  lists_all is new (Ok rows) tells c b stood =
      let known = knows_so true is c b stood in
      let told = tells c b stood in
      (told.0, inl (told_all b actor known ∙ ap Ok (sym told.1)))
  lists_all is new (Err e) tells c b stood =
      let told = tells c b stood in
      (told.0, inr (knows_so true is c b stood, ap Err told.1))
