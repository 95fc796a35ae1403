use Rattle.std.proofs.Common.{[], ◌∷◌}
use Rattle.sqlite_wal.specs.Files.{image_at}
use Rattle.fr_base.specs.Book.{opening}
use Rattle.fr_store.proofs.RefusedLemmas.{not_closed}
use Rattle.fr_desks.proofs.FileDeskLemmas.{the_one}
use Rattle.fr_desks.proofs.file_desk.create.Goals as goal

pub returns-in-Ok-clause-book : goal.returns-in-Ok-clause-book
returns-in-Ok-clause-book g c are =
    c.in-Ok.ensures.book c.args.config.now.cluster (opening c.args.config.now) (c.in_ok-desk.ensures.stands (c.in-Ok.ensures.clean are)) are

pub returns-in-Ok-clause-bare : goal.returns-in-Ok-clause-bare
returns-in-Ok-clause-bare g c are = c.in_ok-desk.ensures.bare (c.in-Ok.ensures.clean are)

pub returns-in-Err-clause-refused : goal.returns-in-Err-clause-refused
returns-in-Err-clause-refused g c =
    let file = c.args.config.now in
    not_closed file (image_at g.S.Start) c.in-Err.store (λ clean db may.
    the_one file.cluster (opening file) db
    (c.in-Err.ensures.left file.cluster (opening file ∷ []) (c.in_ok-desk.ensures.leaves (c.in-Err.ensures.still clean)) db may))
