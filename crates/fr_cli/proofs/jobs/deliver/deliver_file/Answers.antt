use Rattle.std.proofs.Common.{List, ℕ, inl, inr, refl, subst}
use Rattle.fr_cli.specs.Deliveries.{request_with}
use Rattle.fr_cli.specs.Faults.{IsNotGiven}
use Rattle.fr_cli.specs.Performing.{Says}
use Rattle.fr_cli.specs.RegisterFiles.{IsAnswerToGiven}
use Rattle.fr_cli.proofs.SingleRequestLaws.{says_more}
use Rattle.fr_cli.proofs.jobs.deliver.deliver_file.Goals as goal

pub returns-in-Ok-clause-says : goal.returns-in-Ok-clause-says
returns-in-Ok-clause-says g c =
    let said = subst (λ (b : List ℕ). Says (IsNotGiven (g.G.Registers.holds c.args.registers.now c.args.db.now) c.deliver.result.1 c.args.delivery.key.now (request_with c.args.delivery b)
    (g.R.Read.remaining c.args.input.now) (g.R.Read.remaining c.deliver.new.input))
    (IsAnswerToGiven (g.G.Registers.holds c.args.registers.now c.args.db.now) c.deliver.result.1 c.args.delivery.key.now (request_with c.args.delivery b)
    (g.R.Read.remaining c.args.input.now) (g.R.Read.remaining c.deliver.new.input)) c.deliver.result.0) c.deref.ensures.value c.deliver.ensures.says in
    says_more _ _ _ _ c.deliver.result.0 (λ fault not. inr (_, c.in-Ok.ensures.front, not)) (λ answer is. (_, c.in-Ok.ensures.front, is)) said

pub returns-in-Err-clause-says : goal.returns-in-Err-clause-says
returns-in-Err-clause-says g c = inl (c.in-Err.ensures.fault, refl)

pub returns-in-Ok-clause-files : goal.returns-in-Ok-clause-files
returns-in-Ok-clause-files g c = inl (_, c.in-Ok.ensures.front, c.deliver.ensures.files)

pub returns-in-Err-clause-files : goal.returns-in-Err-clause-files
returns-in-Err-clause-files g c = inr (refl, refl)
