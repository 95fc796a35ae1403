use Rattle.std.proofs.Common.{inl}
use Rattle.sqlite_wal.specs.Files.{image_at}
use Rattle.fr_desks.proofs.FileDeskLemmas.{left_holds}
use Rattle.fr_desks.proofs.laws.left_is_found.Goals as goal

pub returns : goal.returns
returns g c files desk k b are leaves left found clean = found clean k b (inl (left_holds g.D.Disk files (image_at g.S.Start) k b are leaves left))
