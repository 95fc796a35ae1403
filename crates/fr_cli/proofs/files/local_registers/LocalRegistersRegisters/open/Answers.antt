use Rattle.std.proofs.Common.{inl, refl}
use Rattle.sqlite_wal.specs.Files.{image_at}
use Rattle.fr_store.specs.Refused.{NeedsNone, opens}
use Rattle.fr_cli.proofs.RefusedFiles.{not_begun}
use Rattle.fr_cli.proofs.files.local_registers.LocalRegistersRegisters.open.Goals as goal

pub returns-in-None-clause-refused : goal.returns-in-None-clause-refused
returns-in-None-clause-refused g c = not_begun (image_at g.S.Start) opens NeedsNone (λ is. cc) (inl refl)
