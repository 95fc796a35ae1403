-- On the way to an outcome: the plan is what the head asks for.
use Rattle.std.specs.Prelude.{◌≡◌, Result, Ok, Err}
use Rattle.fr_http.specs.Head.{HeadData}
use Rattle.fr_http.specs.Outcome.{plan_of}
use Rattle.fr_http.specs.Routes.{path_of}
use Rattle.fr_http.specs.declared.fault.Rejection.{Rejection}
use Rattle.fr_http.specs.declared.plan.Plan.{Plan}

-- The plan is what the head asks for, with its path; or the engine gives its own answer.
abbrev pub Plans : HeadData → Result Plan Rejection → Type 0
Plans head (Ok plan) = (plan_of head ≡ Ok (record { route = plan.route; length = plan.length })) × (plan.path.now ≡ path_of head.target)
Plans head (Err rejection) = plan_of head ≡ Err rejection
