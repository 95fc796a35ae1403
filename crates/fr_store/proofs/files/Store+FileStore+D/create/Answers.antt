use Rattle.std.proofs.Common.{None, Some, arith}
use Rattle.sqlite.specs.State.{HasCleanDisk}
use Rattle.sqlite.specs.Files.{file_state, image_of}
use Rattle.fr_store.specs.Refused.{files_alone, given_back, makes}
use Rattle.fr_store.specs.declared.fault.StoreFault.TheVariants.{Unavailable}
use Rattle.fr_store.proofs.RefusedLemmas.{all_left, make_faults, make_handed, make_lacks, make_tells, not_made_in_files}
use Rattle.fr_store.proofs.files.Store+FileStore+D.create.Goals as goal

pub returns-in-Ok-create_on-clause-made : goal.returns-in-Ok-create_on-clause-made
returns-in-Ok-create_on-clause-made g c clean =
    let made = c.in-Ok-create_on.ensures.made in
    let before : HasCleanDisk (file_state c.in-Ok.conn) = omega (arith, made.survives.clean, clean) in
    record {
      made = made.made clean;
      stands = made.stands clean;
      committed = made.committed clean;
      is_open = made.is_open clean;
      durable = made.durable clean;
      bare = ((file_state c.in-Ok.conn).now, (c.in-Ok.ensures.connected before).reads, made.bare);
    }

pub returns-in-Ok-create_on-clause-survives : goal.returns-in-Ok-create_on-clause-survives
returns-in-Ok-create_on-clause-survives g c =
    let connected = c.in-Ok.ensures.connected in
    (c.in-Ok.conn, record { opens = λ clean. (connected clean).opens; found = λ clean. (connected clean).found }, c.in-Ok-create_on.ensures.made.survives)

pub returns-in-Err-clause-refused : goal.returns-in-Err-clause-refused
returns-in-Err-clause-refused g c = not_made_in_files (image_of g.D.Disk c.args.files) (Some c.in-Err.left)

pub returns-in-None-clause-refused : goal.returns-in-None-clause-refused
returns-in-None-clause-refused g c = let held = image_of g.D.Disk c.args.files in make_handed held Unavailable None (make_lacks held)

pub returns-in-Some-clause-refused : goal.returns-in-Some-clause-refused
returns-in-Some-clause-refused g c =
    let held = image_of g.D.Disk c.args.files in
    let files = c.in-Some.files in
    let refused = c.in-Err-create_on.ensures.refused in
    let fault = c.in-Err-create_on.fault in
    make_handed held fault (given_back g.D.Disk (Some files)) (all_left makes held fault (files_alone g.D.Disk files) (make_faults (file_state c.in-Ok.conn).now fault refused.told) (λ clean.
    let closed = c.in-Some.ensures.closed clean in
    let before : HasCleanDisk (file_state c.in-Ok.conn) = omega (arith, refused.survives.clean, closed.clean) in
    let connected = c.in-Ok.ensures.connected before in
    make_tells held fault files (file_state c.in-Ok.conn) (file_state c.in-Err-create_on.conn) refused.told connected.opens.0 connected.reads (refused.unharmed closed.clean) closed))
