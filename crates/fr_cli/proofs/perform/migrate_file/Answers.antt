use Rattle.std.proofs.Common.{refl}
use Rattle.fr_cli.proofs.RefusedFiles.{not_migrated}
use Rattle.fr_cli.proofs.perform.migrate_file.Goals as goal

pub returns-in-Ok-clause-moved : goal.returns-in-Ok-clause-moved
returns-in-Ok-clause-moved g c = (c.in-Ok.left, refl, c.in-Ok.ensures.moved)

pub returns-in-Err-clause-fault : goal.returns-in-Err-clause-fault
returns-in-Err-clause-fault g c = not_migrated _ _ _ c.in-Err.ensures.refused
