use Rattle.fr_cli.proofs.jobs.guarded.GuardedDesk.actor_of.Goals as goal

pub returns : goal.returns
returns g c = λ k b stands sound. c.actor_of.ensures k b stands.0 sound
