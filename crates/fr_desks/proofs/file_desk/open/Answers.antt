use Rattle.std.proofs.Common.{[], ◌∷◌, subst, sym}
use Rattle.sqlite.specs.Files.{file_state}
use Rattle.sqlite.specs.State.{HasCleanDisk}
use Rattle.sqlite_wal.specs.Files.{image_at}
use Rattle.fr_office.proofs.CrashedLaws.{kept_alone}
use Rattle.fr_store.specs.Crashes.{Serves, StoredLeaves}
use Rattle.fr_store.specs.Refused.{opens}
use Rattle.fr_store.specs.Settled.{stored_settled}
use Rattle.fr_store.specs.Stored.{StandsStored}
use Rattle.fr_desks.proofs.FileDeskLemmas.{found_held}
use Rattle.fr_desks.proofs.RefusedFiles.{also_none, no_file}
use Rattle.fr_desks.proofs.file_desk.open.Goals as goal

pub returns-in-Ok-clause-found : goal.returns-in-Ok-clause-found
returns-in-Ok-clause-found g c clean k b held =
    let store = c.in-Ok.store in
    let kept : HasCleanDisk (file_state store.conn) = subst (λ w. HasCleanDisk (file_state w.records.conn)) c.new.ensures.value clean in
    let opened = c.in-Ok.ensures.opened kept in
    let stored : StandsStored store.config (file_state store.conn) k b = found_held (image_at g.S.Start) store.config (file_state store.conn) k b opened held in
    let left = stored_settled (file_state store.conn) store.config k b opened.serves stored in
    let inside = subst (λ w. StoredLeaves (file_state w.records.conn) k (b ∷ [])) (sym c.new.ensures.value) left in
    (c.new.ensures.stands k b stored, kept_alone k b _ inside)

pub returns-in-Ok-clause-serves : goal.returns-in-Ok-clause-serves
returns-in-Ok-clause-serves g c clean =
    let store = c.in-Ok.store in
    let kept : HasCleanDisk (file_state store.conn) = subst (λ w. HasCleanDisk (file_state w.records.conn)) c.new.ensures.value clean in
    subst (λ w. Serves (file_state w.records.conn)) (sym c.new.ensures.value) ((c.in-Ok.ensures.opened kept).serves)

pub returns-in-Ok-clause-reads : goal.returns-in-Ok-clause-reads
returns-in-Ok-clause-reads g c clean =
    let store = c.in-Ok.store in
    let kept : HasCleanDisk (file_state store.conn) = subst (λ w. HasCleanDisk (file_state w.records.conn)) c.new.ensures.value clean in (
      store.config,
      (file_state store.conn).now,
      (c.in-Ok.ensures.opened kept).reads,
      (c.in-Ok.ensures.opened kept).stands,
      λ k b stood.
          let there : StandsStored store.config (file_state store.conn) k b = subst (λ w. StandsStored w.records.config (file_state w.records.conn) k b) c.new.ensures.value stood.0.0 in
          let rows = (there.rows ((c.in-Ok.ensures.opened kept).is_open)).0 in
          record { has = rows.has; for = rows.for },
    )

pub returns-in-Err-clause-refused : goal.returns-in-Err-clause-refused
returns-in-Err-clause-refused g c = also_none opens (image_at g.S.Start) c.in-Err.refused.0 c.in-Err.refused.1 c.in-Err.ensures.refused

pub returns-in-Ok-false-clause-refused : goal.returns-in-Ok-false-clause-refused
returns-in-Ok-false-clause-refused g c = no_file opens (image_at g.S.Start) (λ is. cc)
