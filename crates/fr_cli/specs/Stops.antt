-- Stops: the program or the machine stops while a job answers lines or serves connections. Behind each answer there was a register, which stood for the
-- book after all that was answered so far. If the program stops there, a crash leaves this book, or the one after one request more. Another job tells
-- its answer when its file is closed.
use Rattle.std.specs.Prelude.{◌≡◌, ◌⊎◌, ℕ, ◌++◌, length, Option, ⊤}
use Rattle.std.specs.declared.io.Read as Read
use Rattle.sqlite.specs.Files.{IsCleanLeft}
use Rattle.sqlite.specs.declared.file.Leftover.{Leftover}
use Rattle.sqlite_disk.specs.declared.Disk.{Ghosts}
use Rattle.sqlite_disk.specs.declared.Files.{Files}
use Rattle.sqlite_wal.specs.Files.{outcomes}
use Rattle.sqlite_wal.specs.Reads.{AreClean}
use Rattle.sqlite_wal.specs.Recovery.{Image}
use Rattle.fr_base.specs.Book.{Book}
use Rattle.fr_base.specs.Cluster.{Cluster}
use Rattle.fr_base.specs.Sound.{IsSound}
use Rattle.fr_base.specs.declared.desk.Desk as Desk
use Rattle.fr_desks.specs.FileDesk.{AreGivenUp, Held}
use Rattle.fr_desks.specs.Sessions.{Session}
use Rattle.fr_world.specs.Held.{Leaving}
use Rattle.fr_cli.specs.AnsweredLines.{AnswersEach}
use Rattle.fr_cli.specs.Deeds.{Deed, Did, IsDeedOf, Lines, Visits}
use Rattle.fr_cli.specs.Handlings.{handlings}
use Rattle.fr_cli.specs.Jobs.{IsPerformed, Streams}
use Rattle.fr_cli.specs.Opened.{IsOver}
use Rattle.fr_cli.specs.Series.{LeadsSomehow, Unclosed, WasNotOpened}
use Rattle.fr_cli.specs.Serving.{ServesEach}
use Rattle.fr_cli.specs.Texts.{readings}
use Rattle.fr_cli.specs.Visits.{SinkGhosts, SourceGhosts, comings}
use Rattle.fr_cli.specs.declared.files.registers.Registers as Registers
use Rattle.fr_cli.specs.declared.streams.listener.Listener as Listener
use Rattle.fr_cli.specs.declared.files.text_files.TextFiles as TextFiles
use Rattle.fr_cli.specs.declared.words.Job.{Job}
use Rattle.fr_cli.specs.declared.words.Job.TheVariants as job

-- The deed is these two, one behind the other.
abbrev pub IsJoined : Deed → Deed → Deed → Type 0
IsJoined (Lines lines answers) (Lines front told) (Lines more others) = (length told ≡ length front) × (lines ≡ front ++ more) × (answers ≡ told ++ others)
IsJoined (Visits visits) (Visits front) (Visits more) = visits ≡ front ++ more
IsJoined _ _ _ = ⊥

-- The job answers lines, or serves connections.
abbrev pub AnswersOn : Job → Type 0
AnswersOn (job.Serve db port count seconds memory) = ⊤
AnswersOn (job.Ask db numbered) = ⊤
AnswersOn _ = ⊥

module _ {D K : Type 0} (g : Ghosts D) (desk : Desk.Ghosts K) (leaves : K → Leaving) where
  -- The deed was done from the first register to the last. As long as that one is clean, there was a register behind each answer.
  abbrev pub WasDoneFrom : K → Deed → K → Type 0
  WasDoneFrom first (Lines lines answers) last = AnswersEach desk.clean desk.stands first last lines answers
  WasDoneFrom first (Visits visits) last = ServesEach desk.clean desk.stands first last visits
  WasDoneFrom first _ last = ⊥

  -- From each sound book that the file held before the job, this register stood for the book after the deed.
  abbrev pub StoodBehind : Image → Deed → K → Type 0
  StoodBehind held deed it = (c : Cluster) (b : Book) → Held held c b → IsSound c b → (done : Session) × (book : Book) × Did c b deed done book × desk.stands it c book

  -- If this register is given up, and nobody else wrote to its files, whatever a crash leaves of them holds next the book after this deed, or the one
  -- after one request more. This holds from each sound book that the file held before the job.
  abbrev pub StopsBehind : Image → Deed → K → Type 0
  StopsBehind held deed it = (files : Files D) (next : Image) → AreGivenUp g (leaves it) files → AreClean g files.log files.db → outcomes g files.log files.db next
      → LeadsSomehow held (record { deed = deed; end = Unclosed }) next

  -- Behind each answer of the deed, and before the first, there was a register between the first one and the last. It stood for the book after all
  -- that was answered so far, and a stop there leaves this book, or the one after one request more.
  abbrev pub StopsBehindEach : Image → Deed → K → K → Type 0
  StopsBehindEach held deed first last = (front : Deed) (more : Deed) → IsJoined deed front more
      → (it : K) × desk.clean it × WasDoneFrom first front it × WasDoneFrom it more last × StoodBehind held front it × StopsBehind held front it

module _ {D K G GF GR GW F R L I W O E : Type 0} (g : Ghosts D) (desk : Desk.Ghosts K) (leaves : K → Leaving) (registers : Registers.Ghosts G GF GR GW) (texts : TextFiles.Ghosts F R) (reader : Read.Ghosts R)
    (listener : Listener.Ghosts L I W) (from : SourceGhosts I) (to : SinkGhosts W) (printed : SinkGhosts O) (told : SinkGhosts E) where
  -- A job that answers lines or serves connections did a deed, from the register that was opened over its file to the one that was closed. If nobody
  -- else wrote to the file before that, a stop behind any answer leaves what the deed had led to. Or the job did not open the file.
  abbrev pub JobStops : Type 0
  JobStops = (held : Image) (rest : Option (Leftover D g)) (early late : G) (before after : F) (old new : L) (job : Job) (s : Streams printed told) (status : ℕ)
      → IsPerformed desk held rest (readings texts reader before after) (handlings registers early late) (comings listener from to old new) job s status → AnswersOn job
      → WasNotOpened held rest (comings listener from to old new) s status
      ⊎ ((left : Leftover D g) × (deed : Deed) × IsDeedOf (readings texts reader before after) (comings listener from to old new) s status job deed
      × (first : K) × (last : K) × IsOver held rest left (desk.clean last) (desk.stands first) (desk.stands last)
      × (IsCleanLeft left → StopsBehindEach g desk leaves held deed first last))
