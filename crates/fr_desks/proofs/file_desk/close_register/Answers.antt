use Rattle.std.proofs.Common.{rules, subst, sym}
use Rattle.sqlite.specs.Files.{file_state}
use Rattle.sqlite.specs.State.{HasCleanDisk}
use Rattle.sqlite_trees.proofs.Doubt.{no_doubt}
use Rattle.fr_store.specs.Crashes.{LeavesOnly}
use Rattle.fr_store.specs.Stored.{StandsStored}
use Rattle.fr_desks.proofs.FileDeskLemmas.{holds_committed}
use Rattle.fr_desks.proofs.file_desk.close_register.Goals as goal

pub returns-in-Ok-clause-clean : goal.returns-in-Ok-clause-clean
returns-in-Ok-clause-clean g c are =
    subst (λ s. HasCleanDisk (file_state s.conn)) c.into_records.ensures
    (subst (λ conn. HasCleanDisk (file_state conn)) c.into_connection-conn.ensures (c.in-Ok.ensures.copied are).was_clean)

pub returns-in-Err-clause-still : goal.returns-in-Err-clause-still
returns-in-Err-clause-still g c clean =
    let before : HasCleanDisk (file_state c.into_connection-conn.result) = search (rules, no_doubt _ clean) in
    subst (λ s. HasCleanDisk (file_state s.conn)) c.into_records.ensures (subst (λ conn. HasCleanDisk (file_state conn)) c.into_connection-conn.ensures before)

pub returns-in-Err-clause-left : goal.returns-in-Err-clause-left
returns-in-Err-clause-left g c k books left db may =
    let there : LeavesOnly (file_state c.into_records.result.conn) k books =
    subst (λ s. LeavesOnly (file_state s.conn) k books) (sym c.into_records.ensures) left.left in
    let only : LeavesOnly (file_state c.into_connection-conn.result) k books =
    subst (λ conn. LeavesOnly (file_state conn) k books) (sym c.into_connection-conn.ensures) there in
    only db (c.in-Err.ensures.err.0.quiet.outcomes db may)

pub returns-in-Ok-clause-book : goal.returns-in-Ok-clause-book
returns-in-Ok-clause-book g c k b stood are =
    let copied = c.in-Ok.ensures.copied are in
    let sound = (c.schema-schema.ensures.live copied.was_open).1 in
    let there : StandsStored c.into_records.result.config (file_state c.into_records.result.conn) k b =
    subst (λ s. StandsStored s.config (file_state s.conn) k b) (sym c.into_records.ensures) stood.0.0 in
    let stored : StandsStored c.into_records.result.config (file_state c.into_connection-conn.result) k b =
    subst (λ conn. StandsStored c.into_records.result.config (file_state conn) k b) (sym c.into_connection-conn.ensures) there in (
      holds_committed c.into_records.result.config (file_state c.into_connection-conn.result) k b _ copied.was_open (record { holds = copied.seen.both; sound = sound }) stored,
      λ image left.
          holds_committed c.into_records.result.config (file_state c.into_connection-conn.result) k b image copied.was_open
          (record { holds = (copied.left image left).both; sound = sound }) stored,
    )
