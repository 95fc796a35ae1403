use Rattle.std.proofs.Common.{inl, refl}
use Rattle.sqlite_wal.specs.Files.{image_at}
use Rattle.fr_store.specs.Refused.{NeedsNone, migrates}
use Rattle.fr_cli.proofs.RefusedFiles.{not_begun}
use Rattle.fr_cli.proofs.files.local_registers.LocalRegistersRegisters.migrate.Goals as goal

pub returns-in-None-clause-refused : goal.returns-in-None-clause-refused
returns-in-None-clause-refused g c = not_begun (image_at g.S.Start) migrates NeedsNone (λ is. cc) (inl refl)
