use Rattle.std.proofs.Common.{subst, Option}
use Rattle.fr_base.specs.declared.actor.Actor.{Actor}
use Rattle.fr_cli.specs.Asked.{asked_by}
use Rattle.fr_cli.specs.ScriptRun.{Replied}
use Rattle.fr_cli.proofs.jobs.single_request.ask_by.Goals as goal

pub returns : goal.returns
returns g c = record {
  does = λ clean cluster book stands sound.
      let step = c.ask_as.ensures.does clean cluster book stands sound in
      (step.0, subst (λ (o : Option Actor). Replied cluster book (asked_by o c.args.request) c.ask_as.result step.0) (c.actor_of-actor.ensures cluster book stands sound) step.1, step.2);
  falls = c.ask_as.ensures.falls;
}
