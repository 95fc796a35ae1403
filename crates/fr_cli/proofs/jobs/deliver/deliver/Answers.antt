use Rattle.std.proofs.Common.{inl, inr, refl, rules}
use Rattle.std.proofs.KnownBytes.{Keeps-refl}
use Rattle.fr_cli.proofs.SingleRequestLaws.{given_over}
use Rattle.fr_cli.proofs.jobs.deliver.deliver.Goals as goal

pub returns-then-ne-clause-says : goal.returns-then-ne-clause-says
returns-then-ne-clause-says g c =
    given_over c.args.delivery _ _ (record { ref_ptr = (0, 0); now = _ }) c.args.body (inl (search rules, search rules, Keeps-refl (g.R.Read.remaining c.args.input.now))) c.run_task.ensures.done

pub returns-in-Ok-clause-says : goal.returns-in-Ok-clause-says
returns-in-Ok-clause-says g c =
    given_over c.args.delivery _ _ c.first_line-key.result c.args.body (inr (search rules, (c.in-Ok.front.items, c.in-Ok.ensures.line, search rules, search rules))) c.run_task-in-Ok.ensures.done

pub returns-in-Err-clause-says : goal.returns-in-Err-clause-says
returns-in-Err-clause-says g c = inr (search rules, (c.in-Err.fault, search rules, search rules), refl)

pub returns-then-ne-clause-quiet : goal.returns-then-ne-clause-quiet
returns-then-ne-clause-quiet g c = λ other. Keeps-refl (g.R.Read.remaining c.args.input.now)

pub returns-in-Ok-clause-quiet : goal.returns-in-Ok-clause-quiet
returns-in-Ok-clause-quiet g c = λ other. absurd (other (search rules))

pub returns-in-Err-clause-quiet : goal.returns-in-Err-clause-quiet
returns-in-Err-clause-quiet g c = λ other. absurd (other (search rules))

pub returns-then-ne-clause-files : goal.returns-then-ne-clause-files
returns-then-ne-clause-files g c = inl (_, inl (search rules, refl, Keeps-refl (g.R.Read.remaining c.args.input.now)), c.run_task.ensures.files)

pub returns-in-Ok-clause-files : goal.returns-in-Ok-clause-files
returns-in-Ok-clause-files g c =
    inl (c.first_line-key.result.now, inr (search rules, (c.in-Ok.front.items, c.in-Ok.ensures.line, search rules, search rules)), c.run_task-in-Ok.ensures.files)

pub returns-in-Err-clause-files : goal.returns-in-Err-clause-files
returns-in-Err-clause-files g c = inr (refl, refl)
