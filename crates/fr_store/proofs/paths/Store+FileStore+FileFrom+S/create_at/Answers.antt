use Rattle.std.proofs.Common.{◌∙◌, IfSome, ap, arith, false, inl, refl, true}
use Rattle.sqlite.specs.Effect.{Database}
use Rattle.sqlite.specs.Files.{file_state, HoldsDatabase}
use Rattle.sqlite.specs.State.{HasCleanDisk}
use Rattle.sqlite.specs.Tree.{Trees}
use Rattle.sqlite_wal.specs.Files.{image_at}
use Rattle.fr_store.specs.Refused.{files_alone, makes}
use Rattle.fr_store.proofs.FileLemmas.{found_opened}
use Rattle.fr_store.proofs.LeftLemmas.{IsLeftOf, IsSettled, left_unavailable, settled_left}
use Rattle.fr_store.proofs.RefusedLemmas.{all_left, make_faults, make_lacks, make_tells, not_made}
use Rattle.fr_store.proofs.paths.Store+FileStore+FileFrom+S.create_at.Goals as goal

pub returns-in-Ok-create_on-clause-made : goal.returns-in-Ok-create_on-clause-made
returns-in-Ok-create_on-clause-made g c clean =
    let made = c.in-Ok-create_on.ensures.made in
    let old = file_state c.in-Ok.conn in
    let before : HasCleanDisk old = omega (arith, made.survives.clean, clean) in
    let opens = c.in-Ok.ensures.opened before in
    let finds = c.in-Ok.ensures.found before in
    let found = found_opened (image_at g.S.Start) old opens.0.is_open opens.1 old.committed.trees (ap (λ (e : Database). e.trees) opens.0.clean) finds.reads finds.holds in
    record {
      made = made.made clean;
      stands = made.stands clean;
      committed = made.committed clean;
      is_open = made.is_open clean;
      durable = made.durable clean;
      bare = (old.now, found, made.bare);
    }

pub returns-in-Ok-create_on-clause-survives : goal.returns-in-Ok-create_on-clause-survives
returns-in-Ok-create_on-clause-survives g c =
    let found = λ (clean : HasCleanDisk (file_state c.in-Ok.conn)) (t : Trees) (h : HoldsDatabase (image_at g.S.Start) t).
    ap (λ (d : Database). d.trees) (c.in-Ok.ensures.opened clean).0.clean ∙ (c.in-Ok.ensures.found clean).holds t h in
    (c.in-Ok.conn, record { opens = c.in-Ok.ensures.opened; found = found }, c.in-Ok-create_on.ensures.made.survives)

pub returns-in-Err-clause-refused : goal.returns-in-Err-clause-refused
returns-in-Err-clause-refused g c =
    let it = c.in-Err in
    let rest : IfSome it.left (IsLeftOf (IsSettled true) (IsSettled false) it.field-0-0) = it.ensures.cause in
    not_made (image_at g.S.Start) _ (left_unavailable (image_at g.S.Start) (IsSettled true) (IsSettled false) (λ file. inl refl)
    (λ files log db image may. (settled_left g.S.Start files.log true log image.log may.0, settled_left g.S.Start files.db false db image.db may.1)) _ it.field-0-0 rest)

pub returns-in-None-clause-refused : goal.returns-in-None-clause-refused
returns-in-None-clause-refused g c = make_lacks (image_at g.S.Start)

pub returns-in-Some-clause-refused : goal.returns-in-Some-clause-refused
returns-in-Some-clause-refused g c =
    let held = image_at g.S.Start in
    let files = c.in-Some.files in
    let refused = c.in-Err-create_on.ensures.refused in
    let fault = c.in-Err-create_on.fault in
    let old = file_state c.in-Ok.conn in
    all_left makes held fault (files_alone _ files) (make_faults old.now fault refused.told) (λ clean.
    let closed = c.in-Some.ensures.closed clean in
    let before : HasCleanDisk old = omega (arith, refused.survives.clean, closed.clean) in
    let opens = c.in-Ok.ensures.opened before in
    let finds = c.in-Ok.ensures.found before in
    let found = found_opened held old opens.0.is_open opens.1 old.committed.trees (ap (λ (e : Database). e.trees) opens.0.clean) finds.reads finds.holds in
    make_tells held fault files old (file_state c.in-Err-create_on.conn) refused.told opens.0 found (refused.unharmed closed.clean) closed)
