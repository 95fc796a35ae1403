-- Picture: what may be drawn for a reader.
use Rattle.std.specs.Prelude.{◌≡◌, ℕ, List, Option, Some, None, Ok, Err}
use Rattle.fr_base.specs.declared.actor.Actor.{Actor}
use Rattle.fr_base.specs.declared.refusal.Refusal.TheVariants.{UnknownKey}
use Rattle.fr_picture.specs.declared.plan.Plan.{Plan}
use Rattle.fr_picture.specs.Plans.{IsPicture, MayRefusePicture}
use Rattle.fr_cli.specs.Reading.{Reading}

-- This may be drawn for a reader: the variant's plan, with what is new since the variant that is named, if one is, and what is
-- gone; or why there is none. Nobody is refused.
abbrev pub plans_for : Option Actor → List ℕ → Option (List ℕ) → Reading Plan
plans_for None variant since c b drawn = drawn ≡ Err UnknownKey
plans_for (Some reader) variant since c b (Ok plan) = IsPicture c b reader variant since plan
plans_for (Some reader) variant since c b (Err e) = MayRefusePicture c b reader variant since e
