use Rattle.fr_cli.proofs.jobs.guarded.GuardedDesk.config.Goals as goal

pub returns : goal.returns
returns g c = λ k b stands. c.config.ensures k b stands.0
