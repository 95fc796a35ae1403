use Rattle.fr_cli.proofs.jobs.guarded.Guarded.tells.Goals as goal

pub returns-clause-stays : goal.returns-clause-stays
returns-clause-stays g c = λ clean cl b stood. (c.variants.ensures.kept clean cl b stood).0
