use Rattle.std.proofs.Common.{refl}
use Rattle.fr_cli.proofs.RefusedFiles.{not_made}
use Rattle.fr_cli.proofs.jobs.create.make.Goals as goal

pub returns-in-Ok-clause-made : goal.returns-in-Ok-clause-made
returns-in-Ok-clause-made g c = (c.in-Ok.files, refl, c.in-Ok.ensures.book, c.in-Ok.ensures.bare)

pub returns-in-Err-clause-fault : goal.returns-in-Err-clause-fault
returns-in-Err-clause-fault g c = not_made _ _ _ _ c.in-Err.ensures.refused
