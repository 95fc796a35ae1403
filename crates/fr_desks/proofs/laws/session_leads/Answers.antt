use Rattle.sqlite.specs.Files.{file_state}
use Rattle.sqlite_wal.specs.Files.{image_at}
use Rattle.fr_desks.proofs.SessionLaws.{session_leads}
use Rattle.fr_store.specs.Settled.{stored_settled}
use Rattle.fr_desks.proofs.laws.session_leads.Goals as goal

pub returns : goal.returns
returns g c = session_leads g.D.Disk _ _ _ _ _ (image_at g.S.Start)
    (λ desk k b serves warm. stored_settled (file_state desk.records.conn) desk.records.config k b serves warm.0)
    (λ desk k b stands. stands.0)
    (λ desk k b warm kept. (warm, kept))
