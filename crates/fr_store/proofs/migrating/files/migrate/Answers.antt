use Rattle.std.proofs.Common.{None, Some, arith}
use Rattle.sqlite.specs.State.{HasCleanDisk}
use Rattle.sqlite.specs.Files.{file_state, image_of}
use Rattle.fr_store.specs.Refused.{files_alone, given_back, migrates}
use Rattle.fr_store.specs.declared.fault.StoreFault.TheVariants.{Unavailable}
use Rattle.fr_store.proofs.BeforeLemmas.{old_if_before}
use Rattle.fr_store.proofs.OpenedLemmas.{migrated_in}
use Rattle.fr_store.proofs.RefusedLemmas.{all_left, migrate_handed, migrate_lacks, migrate_tells, not_migrated_in_files}
use Rattle.fr_store.proofs.migrating.files.migrate.Goals as goal

pub returns-in-Ok-told-clause-migrated : goal.returns-in-Ok-told-clause-migrated
returns-in-Ok-told-clause-migrated g c clean =
    let is = c.in-Ok-told.ensures in
    let closed = c.in-Some.ensures.closed clean in
    let before : HasCleanDisk (file_state c.in-Ok.conn) = omega (arith, c.migrate_on-told.ensures.survives.clean, closed.clean) in
    migrated_in g.D.Disk (image_of g.D.Disk c.args.files) c.in-Some.files (file_state c.in-Ok.conn) (file_state c.migrate_on-told.new.conn) (c.in-Ok.ensures.connected before)
    (is.migrated closed.clean) (is.committed closed.clean) (is.opens closed.clean) is.before (is.numbered closed.clean) closed

pub returns-in-Err-clause-refused : goal.returns-in-Err-clause-refused
returns-in-Err-clause-refused g c = not_migrated_in_files (image_of g.D.Disk c.args.files) c.in-Err.fault (given_back g.D.Disk (Some c.in-Err.left)) c.in-Err.ensures.refused

pub returns-in_default-clause-refused : goal.returns-in_default-clause-refused
returns-in_default-clause-refused g c = let held = image_of g.D.Disk c.args.files in migrate_handed held Unavailable None (migrate_lacks held)

pub returns-in-Err-told-clause-refused : goal.returns-in-Err-told-clause-refused
returns-in-Err-told-clause-refused g c =
    let held = image_of g.D.Disk c.args.files in
    let files = c.in-Some.files in
    let refused = c.in-Err-told.ensures in
    let fault = c.in-Err-told.fault in
    let old = file_state c.in-Ok.conn in
    migrate_handed held fault (given_back g.D.Disk (Some files)) (all_left migrates held fault (files_alone g.D.Disk files) refused.not_made (λ clean.
    let closed = c.in-Some.ensures.closed clean in
    let before : HasCleanDisk old = omega (arith, c.migrate_on-told.ensures.survives.clean, closed.clean) in
    let connected = c.in-Ok.ensures.connected before in
    migrate_tells held fault files old (file_state c.migrate_on-told.new.conn) (refused.told closed.clean) connected.opens.0 connected.reads
    (refused.unharmed closed.clean (old_if_before old connected.reads.sound connected.ordered_before)) closed))
