-- Laws: files that were left with a book are opened with it. A register that is made and then opened has the book of a
-- new register. What is opened after a crash is the register after all that was answered, or after one request more; so
-- with any desk that was given up.
use Rattle.std.specs.Prelude.{List}
use Rattle.sqlite_disk.specs.declared.Disk.{Ghosts}
use Rattle.sqlite_disk.specs.declared.Files.{Files}
use Rattle.sqlite_wal.specs.Files.{outcomes}
use Rattle.sqlite_wal.specs.Reads.{AreClean}
use Rattle.sqlite_wal.specs.Recovery.{Image}
use Rattle.fr_base.specs.Book.{Book, opening}
use Rattle.fr_base.specs.Cluster.{Cluster, ClusterFile}
use Rattle.fr_base.specs.Sound.{IsSound}
use Rattle.fr_base.specs.declared.answer.Answer.{Answer}
use Rattle.fr_base.specs.declared.request.Ask.{Ask}
use Rattle.fr_world.specs.Held.{Leaving, Standing}
use Rattle.fr_office.specs.Crashed.{IsFound, IsNear, WereAsked}
use Rattle.fr_desks.specs.FileDesk.{AreGivenUp, FindsHeld, IsLeftBy, LeavesBook}

-- Where nobody else writes to them, files that were left with a book are opened with this book, after a crash too.
abbrev pub LeftIsFound : {D Desk : Type 0} → Ghosts D → Image → (Desk → Type 0) → (Desk → Standing) → Type 0
LeftIsFound {D} {Desk} g held clean stands = (files : Files D) (desk : Desk) (c : Cluster) (b : Book) → AreClean g files.log files.db → LeavesBook g files c b
    → IsLeftBy g files held → FindsHeld held (clean desk) (stands desk) → clean desk → stands desk c b

-- So a register that is made and then opened has the book of a new register.
abbrev pub MadeIsFound : {D Desk : Type 0} → Ghosts D → Image → (Desk → Type 0) → (Desk → Standing) → Type 0
MadeIsFound {D} {Desk} g held clean stands = (files : Files D) (desk : Desk) (f : ClusterFile) → AreClean g files.log files.db → LeavesBook g files f.cluster (opening f)
    → IsLeftBy g files held → FindsHeld held (clean desk) (stands desk) → clean desk → stands desk f.cluster (opening f)

-- Whatever was asked of a desk that was opened over files, with a sound book, and wherever a crash falls: where nobody else writes to the
-- files, what is opened afterwards is the register after all that was answered, or after one request more, which had been answered
-- Unavailable; and it is as promised.
abbrev pub CrashIsFound : {D Desk Found : Type 0} → Ghosts D → (Desk → Standing) → (Desk → Type 0) → (Desk → Leaving) → Image → (Found → Type 0) → (Found → Standing) → Type 0
CrashIsFound {D} {Desk} {Found} g stands serves leaves held clean finds =
    (c : Cluster) (b : Book) (first last : Desk) (asks : List Ask) (answers : List Answer) (files : Files D) (found : Found) → stands first c b → IsSound c b → serves first
    → WereAsked stands leaves first asks answers last → AreGivenUp g (leaves last) files → AreClean g files.log files.db → outcomes g files.log files.db held
    → FindsHeld held (clean found) (finds found) → clean found → ∥ IsFound (finds found c) c b asks answers ∥₁

-- Whatever was done at a desk, and wherever a crash falls: where nobody else writes to the files, what is opened
-- afterwards has the book for which the desk stood, or the one after one request more.
abbrev pub StoppedIsFound : {D Desk Found : Type 0} → Ghosts D → (Desk → Standing) → (Desk → Leaving) → Image
    → (Found → Type 0) → (Found → Standing) → Type 0
StoppedIsFound {D} {Desk} {Found} g stands leaves held clean finds =
    (c : Cluster) (b : Book) (desk : Desk) (files : Files D) (found : Found) → stands desk c b
    → AreGivenUp g (leaves desk) files → AreClean g files.log files.db → outcomes g files.log files.db held
    → FindsHeld held (clean found) (finds found) → clean found → ∥ ((x : Book) × IsNear c b x × finds found c x) ∥₁
