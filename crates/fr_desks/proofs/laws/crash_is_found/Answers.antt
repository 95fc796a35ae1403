use Rattle.sqlite.specs.Files.{file_state}
use Rattle.sqlite_wal.specs.Files.{image_at}
use Rattle.fr_store.specs.Settled.{stored_settled}
use Rattle.fr_desks.proofs.FileDeskLemmas.{crash_found}
use Rattle.fr_desks.proofs.laws.crash_is_found.Goals as goal

pub returns : goal.returns
returns g c = crash_found g.D.Disk _ _ _ (image_at g.S.Start) _ _ (λ desk k b serves stands. stored_settled (file_state desk.records.conn) desk.records.config k b serves stands.0)
