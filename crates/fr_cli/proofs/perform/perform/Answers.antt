use Rattle.std.proofs.Common.{refl, rules}
use Rattle.std.proofs.KnownBytes.{Keeps-refl}
use Rattle.fr_cli.specs.Jobs.{IsPerformed}
use Rattle.fr_cli.proofs.JobLaws.{performed}
use Rattle.fr_cli.proofs.ReadingLaws.{pictured_over}
use Rattle.fr_cli.proofs.SingleRequestLaws.{reported_over}
use Rattle.fr_cli.proofs.perform.perform.Goals as goal

pub returns-in-Run : goal.returns-in-Run
returns-in-Run g c =
    let (done, ended, told, run, stops) = c.end_script.ensures.run in
    performed _ (g.G.Registers.holds c.args.registers.now) _ _ _ _ _ _ c.in-Run.is refl (unfold IsPerformed in (done, run, stops, (ended, told), search rules, refl, (refl, refl)))

pub returns-in-Create : goal.returns-in-Create
returns-in-Create g c = performed _ (g.G.Registers.holds c.args.registers.now) _ _ _ _ _ _ c.in-Create.is c.ended.ensures.left (unfold IsPerformed in (search rules, (Keeps-refl (g.R.Read.remaining c.args.input.now), refl), c.create.ensures.files))

pub returns-in-Migrate : goal.returns-in-Migrate
returns-in-Migrate g c = performed _ (g.G.Registers.holds c.args.registers.now) _ _ _ _ _ _ c.in-Migrate.is c.ended-in-Migrate.ensures.left (unfold IsPerformed in (search rules, search rules, (Keeps-refl (g.R.Read.remaining c.args.input.now), refl), c.migrate_file.ensures.files))

pub returns-in-Serve : goal.returns-in-Serve
returns-in-Serve g c =
    let (said, served) = c.serve.ensures.served in
    performed _ (g.G.Registers.holds c.args.registers.now) _ _ _ _ _ _ c.in-Serve.is c.ended-in-Serve.ensures.left (unfold IsPerformed in ((c.serve.result.0, c.serve.new.err, search rules, said, served, search rules), search rules, Keeps-refl (g.R.Read.remaining c.args.input.now), c.serve.ensures.files))

pub returns-in-Ask : goal.returns-in-Ask
returns-in-Ask g c = performed _ (g.G.Registers.holds c.args.registers.now) _ _ _ _ _ _ c.in-Ask.is c.ended-in-Ask.ensures.left (unfold IsPerformed in (c.ask.result.0, c.ask.ensures.asked, search rules, search rules, refl, c.ask.ensures.files))

pub returns-in-Report : goal.returns-in-Report
returns-in-Report g c =
    let done = c.run_task in
    performed _ (g.G.Registers.holds c.args.registers.now) _ _ _ _ _ _ c.in-Report.is c.told.ensures.left (unfold IsPerformed in (done.result.0, search rules, reported_over c.in-Report.query done.ensures.done, search rules, (Keeps-refl (g.R.Read.remaining c.args.input.now), refl), done.ensures.files))

pub returns-in-Picture : goal.returns-in-Picture
returns-in-Picture g c =
    let done = c.run_task-in-Picture in
    performed _ (g.G.Registers.holds c.args.registers.now) _ _ _ _ _ _ c.in-Picture.is c.told-in-Picture.ensures.left (unfold IsPerformed in (done.result.0, search rules, pictured_over c.in-Picture.variant c.in-Picture.since c.in-Picture.supplier done.ensures.done, search rules, (Keeps-refl (g.R.Read.remaining c.args.input.now), refl), done.ensures.files))

pub returns-in-Deliver : goal.returns-in-Deliver
returns-in-Deliver g c =
    let done = c.deliver_file-delivered in
    performed _ (g.G.Registers.holds c.args.registers.now) _ _ _ _ _ _ c.in-Deliver.is c.told-in-Deliver.ensures.left (unfold IsPerformed in (done.result.0, search rules, done.ensures.says, done.ensures.quiet, refl, done.ensures.files))

pub returns-in-Check : goal.returns-in-Check
returns-in-Check g c = performed _ (g.G.Registers.holds c.args.registers.now) _ _ _ _ _ _ c.in-Check.is refl (unfold IsPerformed in (c.check.result, search rules, c.check.ensures, (Keeps-refl (g.R.Read.remaining c.args.input.now), refl), (refl, refl)))

pub returns-in-Explain : goal.returns-in-Explain
returns-in-Explain g c = performed _ (g.G.Registers.holds c.args.registers.now) _ _ _ _ _ _ c.in-Explain.is refl (unfold IsPerformed in (c.explain_word.result, search rules, c.explain_word.ensures, search rules, (Keeps-refl (g.R.Read.remaining c.args.input.now), refl), (refl, refl)))
