use Rattle.std.proofs.Common.{rules, Err, inl, refl}
use Rattle.fr_base.specs.declared.refusal.Refusal.TheVariants.{Unavailable}
use Rattle.fr_office.proofs.StepLaws.{acted, unchecked, unknown}
use Rattle.fr_office.proofs.dispatch.decline.Goals as goal

pub returns-then-not-is_known-clause-answers : goal.returns-then-not-is_known-clause-answers
returns-then-not-is_known-clause-answers g c =
    unknown (g.R.Records.stands c.args.records.now) c.config-file.result.now c.config-file.ensures.config c.args.ask.now (search rules)

pub returns-in-Ok-clause-answers : goal.returns-in-Ok-clause-answers
returns-in-Ok-clause-answers g c =
    let now = g.R.Records.stands c.args.records.now in
    acted now c.config-file.result.now c.config-file.ensures.config c.args.ask.now (search rules) c.in-Ok.«_valid» (search rules) now (Err Unavailable)
    (λ cluster b stood sound known. (stood, inl refl))

pub returns-in-Err-clause-answers : goal.returns-in-Err-clause-answers
returns-in-Err-clause-answers g c =
    unchecked (g.R.Records.stands c.args.records.now) c.config-file.result.now c.config-file.ensures.config c.args.ask.now (search rules) c.in-Err.refusal (search rules)
