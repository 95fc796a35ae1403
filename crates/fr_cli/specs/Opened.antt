-- Opened: a register's file was opened for a job, and closed behind it. It held a register. What that register stood for as it was opened, and as it
-- was closed.
use Rattle.std.specs.Prelude.{◌≡◌, Option, Some}
use Rattle.sqlite.specs.Effect.{Database}
use Rattle.sqlite.specs.Files.{IsCleanLeft}
use Rattle.sqlite.specs.declared.file.Leftover.{Leftover}
use Rattle.sqlite_disk.specs.declared.Disk.{Ghosts}
use Rattle.sqlite_wal.specs.Recovery.{Image}
use Rattle.fr_base.specs.Book.{Book}
use Rattle.fr_base.specs.Cluster.{Cluster, ClusterFile}
use Rattle.fr_desks.specs.FileDesk.{Held, IsLeftWith}
use Rattle.fr_store.specs.Store.{IsRegisterOf}
use Rattle.fr_store.specs.StoreFiles.{IsFound}
use Rattle.fr_world.specs.Held.{Standing}

-- The file held a register of some cluster.
abbrev pub HeldRegister : Image → Type 0
HeldRegister held = (f : ClusterFile) × (db : Database) × IsFound held db × IsRegisterOf f db

-- This is left of the file, which was opened. As long as nobody else wrote to it, it held a register.
abbrev pub IsLeftOf : {D : Type 0} {g : Ghosts D} → Image → Option (Leftover D g) → Leftover D g → Type 0
IsLeftOf held rest left = (rest ≡ Some left) × (IsCleanLeft left → HeldRegister held)

-- A register was opened over the file, and stood so. At last it stood so, and the file was closed. This is left of it. That the last one was clean is
-- the first thing said here.
pub record IsOver {D : Type 0} {g : Ghosts D} (held : Image) (rest : Option (Leftover D g)) (last : Leftover D g) (clean : Type 0) (old new : Standing) : Type 0 where
  pub left : IsLeftOf held rest last
  pub finds : clean → (c : Cluster) (b : Book) → Held held c b → old c b
  pub closes : IsCleanLeft last → clean
  pub leaves : (c : Cluster) (b : Book) → new c b → IsLeftWith last c b
