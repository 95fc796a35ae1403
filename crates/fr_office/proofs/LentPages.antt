-- The page that is lent is the supplier's page of the variant.
use Rattle.std.proofs.Common.{◌≡◌, ◌∙◌, Bool, false, true, Option, Some, None, option_map, Result, Ok, Err, refl, ap, subst, inr}
use Rattle.std.specs.Prelude.{IfOk, is_some}
use Rattle.fr_base.specs.Book.{Book, Variant}
use Rattle.fr_base.specs.Cluster.{Cluster}
use Rattle.fr_base.specs.Tables.{contains, get}
use Rattle.fr_base.specs.declared.name.Name.{Name}
use Rattle.fr_base.specs.declared.refusal.Refusal.{Refusal}
use Rattle.fr_base.specs.declared.refusal.Refusal.TheVariants.{NoVariant}
use Rattle.fr_base.proofs.SoundTables.{same_some}
use Rattle.fr_world.specs.Held.{Standing, Tells, page_of}
use Rattle.fr_world.specs.Pages.{PageData, page_in}
use Rattle.fr_office.specs.Shown.{FindsPage}

opened : (f : Variant → PageData) (o : Option Variant) (page : PageData) → Some page ≡ option_map f o → (x : Variant) × (o ≡ Some x) × (page ≡ f x)
opened f None page e = cc
opened f (Some x) page e = (x, refl, same_some page (f x) e)

closed : (f : Variant → PageData) (o : Option Variant) → None ≡ option_map f o → o ≡ None
closed f None e = refl
closed f (Some x) e = cc

module _ (old new : Standing) (s v : Name) (lent : Option PageData) (tells : (c : Cluster) (b : Book) → old c b → new c b × (lent ≡ page_of c.params b s v)) where
  pub finds-page : is_some lent ≡ true → FindsPage lent s v old new (Ok tt)
  finds-page some c b stood =
      let told = tells c b stood in
      (told.0, at_hand lent some told.1)
    where
      at_hand : (o : Option PageData) → is_some o ≡ true → o ≡ page_of c.params b s v → (x : Variant) × (get b.variants v ≡ Some x) × (o ≡ Some (page_in c.params b s v x))
      at_hand None some is = cc
      at_hand (Some page) some is =
          let there = opened (page_in c.params b s v) (get b.variants v) page is in
          (there.0, there.1, ap Some there.2)

  pub finds-none : is_some lent ≡ false → FindsPage lent s v old new (Err NoVariant)
  finds-none none c b stood =
      let told = tells c b stood in
      (told.0, inr (refl, at_hand lent none told.1))
    where
      at_hand : (o : Option PageData) → is_some o ≡ false → o ≡ page_of c.params b s v → get b.variants v ≡ None
      at_hand None none is = closed (page_in c.params b s v) (get b.variants v) is
      at_hand (Some page) none is = cc

-- the page that is lent
pub finds-lent : (old new : Standing) (s v : Name) (lent : Option PageData) (page : PageData) → lent ≡ Some page → FindsPage lent s v old new (Ok tt) → FindsPage (Some page) s v old new (Ok tt)
finds-lent old new s v lent page is finds = subst (λ o. FindsPage o s v old new (Ok tt)) is finds

-- a page is lent where the variant is there
pub lends-there : (old new : Standing) (s v : Name) (lent : Option PageData) (r : Result Bool Refusal) → IfOk r (λ there. there ≡ is_some lent) → Tells old new r (λ c b _. lent ≡ page_of c.params b s v) →
    Tells old new r (λ c b there. there ≡ contains b.variants v)
lends-there old new s v lent (Err e) is tells c b stood = tells c b stood
lends-there old new s v lent (Ok there) is tells c b stood =
    let told = tells c b stood in
    (told.0, is ∙ ap is_some told.1 ∙ at_hand (get b.variants v))
  where
    at_hand : (o : Option Variant) → is_some (option_map (page_in c.params b s v) o) ≡ is_some o
    at_hand None = refl
    at_hand (Some x) = refl
