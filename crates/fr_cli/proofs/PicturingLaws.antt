-- What somebody read of a plan, and that nobody reads one.
use Rattle.std.proofs.Common.{◌≡◌, List, ℕ, Option, None, Some, Result, Ok, Err, refl, sym, subst}
use Rattle.fr_base.specs.declared.actor.Actor.{Actor}
use Rattle.fr_base.specs.declared.refusal.Refusal.{Refusal}
use Rattle.fr_base.specs.declared.refusal.Refusal.TheVariants.{UnknownKey}
use Rattle.fr_picture.specs.declared.plan.Plan.{Plan}
use Rattle.fr_picture.specs.Plans.{IsPicture, MayRefusePicture}
use Rattle.fr_picture.specs.Reports.{Reads}
use Rattle.fr_world.specs.Held.{Standing}
use Rattle.fr_cli.specs.Picturing.{plans_for}
use Rattle.fr_cli.specs.Reading.{IsRead}

-- what somebody read
pub plan_somebody : (clean : Type 0) (old new : Standing) (reader : Option Actor) (who : Actor) (variant : List ℕ) (since : Option (List ℕ)) (r : Result Plan Refusal) → reader ≡ Some who
    → (clean → Reads old new r (λ c b plan. IsPicture c b who variant since plan) (λ c b e. MayRefusePicture c b who variant since e)) → IsRead (plans_for reader variant since) clean old new r
plan_somebody clean old new reader who variant since (Ok plan) is reads = λ now c b stood sound.
    let read = reads now c b stood sound in
    (read.0, subst (λ reader. plans_for reader variant since c b (Ok plan)) (sym is) read.1)
plan_somebody clean old new reader who variant since (Err e) is reads = λ now c b stood sound.
    let read = reads now c b stood sound in
    (read.0, subst (λ reader. plans_for reader variant since c b (Err e)) (sym is) read.1)

-- nobody is refused
pub plan_nobody : (clean : Type 0) (old : Standing) (reader : Option Actor) (variant : List ℕ) (since : Option (List ℕ)) → reader ≡ None → IsRead (plans_for reader variant since) clean old old (Err UnknownKey)
plan_nobody clean old reader variant since is = λ now c b stood sound. (stood, subst (λ reader. plans_for reader variant since c b (Err UnknownKey)) (sym is) refl)
