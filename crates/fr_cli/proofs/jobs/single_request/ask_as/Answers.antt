use Rattle.std.proofs.Common.{refl}
use Rattle.fr_cli.proofs.jobs.single_request.ask_as.Goals as goal

pub returns-in-Some : goal.returns-in-Some
returns-in-Some g c = record {
  does = λ clean cluster book stands sound.
      let step = c.ask.ensures.answered clean cluster book stands sound in
      rw c.in-Some.is (step.0, step.2, step.1);
  falls = c.ask.ensures.falls;
}

pub returns-in-None : goal.returns-in-None
returns-in-None g c = record {
  does = λ clean cluster book stands sound. rw c.in-None.is (book, (refl, refl), stands);
  falls = λ clean. clean;
}
