use Rattle.std.proofs.Common.{inl}
use Rattle.fr_base.specs.Book.{opening}
use Rattle.sqlite_wal.specs.Files.{image_at}
use Rattle.fr_desks.proofs.FileDeskLemmas.{left_holds}
use Rattle.fr_desks.proofs.laws.made_is_found.Goals as goal

pub returns : goal.returns
returns g c files desk f are leaves left found clean = found clean f.cluster (opening f) (inl (left_holds g.D.Disk files (image_at g.S.Start) f.cluster (opening f) are leaves left))
