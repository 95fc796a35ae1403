use Rattle.sqlite_wal.specs.Files.{image_at}
use Rattle.fr_desks.proofs.FileDeskLemmas.{stopped_found}
use Rattle.fr_desks.proofs.laws.stopped_is_found.Goals as goal

pub returns : goal.returns
returns g c = stopped_found g.D.Disk _ _ (image_at g.S.Start) _ _ (λ desk k b stands. stands.1)
