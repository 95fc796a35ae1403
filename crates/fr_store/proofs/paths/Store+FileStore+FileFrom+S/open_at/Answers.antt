use Rattle.std.proofs.Common.{arith}
use Rattle.sqlite.specs.State.{HasCleanDisk}
use Rattle.sqlite.specs.Files.{file_state}
use Rattle.sqlite_wal.specs.Files.{image_at}
use Rattle.fr_store.specs.Refused.{files_alone, opens}
use Rattle.fr_store.proofs.OpenedLemmas.{opened_in}
use Rattle.fr_store.proofs.RefusedLemmas.{all_left, not_opened, open_lacks, open_tells}
use Rattle.fr_store.proofs.paths.Store+FileStore+FileFrom+S.open_at.Goals as goal

pub returns-in-Ok-open_on-clause-opened : goal.returns-in-Ok-open_on-clause-opened
returns-in-Ok-open_on-clause-opened g c clean =
    let is = c.in-Ok-open_on.ensures.opened in
    let store = c.in-Ok-open_on.store in
    let before : HasCleanDisk (file_state c.in-Ok.conn) = omega (arith, is.survives.clean, clean) in
    opened_in (image_at g.S.Start) store.config (file_state c.in-Ok.conn) (file_state store.conn) (c.in-Ok.ensures.connected before)
    (is.opened clean) (is.up clean).1 (is.serves clean) is.ours (is.stands clean) (is.variants clean) (is.again clean)

pub returns-in-Ok-open_on-clause-survives : goal.returns-in-Ok-open_on-clause-survives
returns-in-Ok-open_on-clause-survives g c =
    let connected = c.in-Ok.ensures.connected in
    (c.in-Ok.conn, record { opens = λ clean. (connected clean).opens; found = λ clean. (connected clean).found }, c.in-Ok-open_on.ensures.opened.survives)

pub returns-in-Err-clause-refused : goal.returns-in-Err-clause-refused
returns-in-Err-clause-refused g c = not_opened (image_at g.S.Start) c.in-Err.fault c.in-Err.left c.in-Err.ensures.refused

pub returns-in-None-clause-refused : goal.returns-in-None-clause-refused
returns-in-None-clause-refused g c = open_lacks (image_at g.S.Start)

pub returns-in-Some-clause-refused : goal.returns-in-Some-clause-refused
returns-in-Some-clause-refused g c =
    let held = image_at g.S.Start in
    let files = c.in-Some.files in
    let refused = c.in-Err-open_on.ensures.refused in
    let fault = c.in-Err-open_on.fault in
    all_left opens held fault (files_alone _ files) refused.not_made (λ clean.
    let closed = c.in-Some.ensures.closed clean in
    let before : HasCleanDisk (file_state c.in-Ok.conn) = omega (arith, refused.survives.clean, closed.clean) in
    let connected = c.in-Ok.ensures.connected before in
    open_tells held fault files (file_state c.in-Ok.conn) (file_state c.in-Err-open_on.conn) (refused.told closed.clean) connected.opens.0 connected.reads (refused.unharmed closed.clean) closed)
