use Rattle.std.proofs.Common.{inr, refl}
use Rattle.sqlite_wal.specs.Files.{image_at}
use Rattle.fr_store.specs.Refused.{IsUnavailable, makes_closed}
use Rattle.fr_cli.proofs.RefusedFiles.{not_begun}
use Rattle.fr_cli.proofs.files.local_registers.LocalRegistersRegisters.create.Goals as goal

pub returns-in_default-clause-refused : goal.returns-in_default-clause-refused
returns-in_default-clause-refused g c = not_begun (image_at g.S.Start) (makes_closed c.args.config.now) IsUnavailable (inr refl) refl
