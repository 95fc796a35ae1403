use Rattle.sqlite_wal.specs.Files.{image_at}
use Rattle.fr_store.specs.Refused.{migrates}
use Rattle.fr_desks.proofs.RefusedFiles.{also_none, no_file}
use Rattle.fr_desks.proofs.file_desk.migrate.Goals as goal

pub returns-in-Err-clause-refused : goal.returns-in-Err-clause-refused
returns-in-Err-clause-refused g c = also_none migrates (image_at g.S.Start) c.in-Err.refused.0 c.in-Err.refused.1 c.in-Err.ensures.refused

pub returns-in-Ok-false-clause-refused : goal.returns-in-Ok-false-clause-refused
returns-in-Ok-false-clause-refused g c = no_file migrates (image_at g.S.Start) (λ is. cc)
