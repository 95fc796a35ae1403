-- Series: jobs at one register's file, one after another. Each opens what the one before left: files that were closed, as
-- they are or as a crash leaves them; or, where they failed to close, as where the disk fails from some call on, what an open after a
-- crash finds in their store. What such jobs ask of the register, and are answered, is a run of it, with one request more at most at
-- the end of each whose files failed to close; and all of it is as promised. A job that did not open the file asks nothing, and what it leaves
-- holds next what the file held. A job that was stopped behind an answer did the front of its deed.
use Rattle.std.specs.Prelude.{◌≡◌, ◌≢◌, ◌⊎◌, ℕ, List, [], ◌∷◌, ◌++◌, Option, Some, None, Err, ⊤}
use Rattle.std.specs.Borrow.{Bor}
use Rattle.std.specs.declared.io.Read as Read
use Rattle.sqlite.specs.Files.{HoldsDatabase, IsCleanLeft}
use Rattle.sqlite.specs.Tree.{Trees}
use Rattle.sqlite.specs.declared.file.Leftover.{Leftover}
use Rattle.sqlite.specs.declared.file.Leftover.TheVariants as left
use Rattle.sqlite_disk.specs.declared.Disk.{Ghosts}
use Rattle.sqlite_store.specs.FileStore.{recovers}
use Rattle.sqlite_wal.specs.Recovery.{Image}
use Rattle.fr_base.specs.Book.{Book, opening}
use Rattle.fr_base.specs.Cluster.{Cluster, ClusterFile}
use Rattle.fr_base.specs.Sound.{IsSound}
use Rattle.fr_base.specs.Step.{step}
use Rattle.fr_base.specs.declared.desk.Desk as Desk
use Rattle.fr_base.specs.declared.request.Ask.{Ask}
use Rattle.fr_desks.specs.FileDesk.{Held, IsLeftBy}
use Rattle.fr_desks.specs.Sessions.{Session}
use Rattle.fr_office.specs.Crashed.{IsNear}
use Rattle.fr_office.specs.Headline.{WereAnswered}
use Rattle.fr_cli.specs.Deeds.{Deed, Did, IsDeedOf, WasLeft, session_of}
use Rattle.fr_cli.specs.Faults.{IsNotOpened}
use Rattle.fr_cli.specs.Handlings.{handlings}
use Rattle.fr_cli.specs.Jobs.{IsPerformed, Shows, Streams}
use Rattle.fr_cli.specs.Texts.{IsClusterAt, readings}
use Rattle.fr_cli.specs.Visits.{Comings, SinkGhosts, SourceGhosts, comings}
use Rattle.fr_cli.specs.declared.failure.Failure.TheVariants as failure
use Rattle.fr_cli.specs.declared.fault.Fault.{Fault}
use Rattle.fr_cli.specs.declared.fault.Fault.TheVariants.{Register}
use Rattle.fr_cli.specs.declared.files.registers.Registers as Registers
use Rattle.fr_cli.specs.declared.streams.listener.Listener as Listener
use Rattle.fr_cli.specs.declared.files.text_files.TextFiles as TextFiles
use Rattle.fr_cli.specs.declared.words.Job.{Job}
use Rattle.fr_cli.specs.declared.words.Job.TheVariants as job
use Rattle.fr_store.specs.StoreFiles.{image_left, outcomes_left}
use Rattle.fr_store.specs.declared.fault.StoreFault.TheVariants.{Unavailable}

-- ---- one job

-- What is opened next, where nobody else writes to the files: files that were closed, or were not opened, as they are or as a crash leaves
-- them; or what an open after a crash finds in the store of files that failed to close.
abbrev pub IsNextOf : {D : Type 0} {g : Ghosts D} → Leftover D g → Image → Type 0
IsNextOf {D} {g} (left.Files files) next = IsLeftBy g files next
IsNextOf {D} {g} (left.Unopened files) next =
    let rest : Leftover D g = left.Unopened files in (next ≡ image_left rest) ⊎ outcomes_left rest next
IsNextOf (left.Store it) next = (db : Trees) × recovers it db × HoldsDatabase next db

-- How a deed's files were left: closed, or as they failed to close.
pub data End : Type 0 where
  Closed : End
  Unclosed : End

abbrev pub end_of : {D : Type 0} {g : Ghosts D} → Leftover D g → End
end_of (left.Files files) = Closed
end_of (left.Unopened files) = Unclosed
end_of (left.Store it) = Unclosed

-- a deed, and how its files were left
pub record Turn : Type 0 where
  pub deed : Deed
  pub end : End

-- Behind files that were left so, the book that they held stood next; or the one after one request more, whichever that is, if they failed
-- to close.
abbrev pub Follows : End → Cluster → Book → Book → Type 0
Follows Closed c b next = next ≡ b
Follows Unclosed c b next = IsNear c b next

-- The turn leads from what the file held to what it holds next: from each sound book that it held, to the one after the deed, or what
-- follows it.
abbrev pub LeadsBy : Image → Turn → Image → Type 0
LeadsBy held turn last = (c : Cluster) (b : Book) → Held held c b → IsSound c b
    → (done : Session) × (book next : Book) × Did c b turn.deed done book × Follows turn.end c book next × Held last c next

-- The same, but of the requests and the books it is only known that there are such.
abbrev pub LeadsSomehow : Image → Turn → Image → Type 0
LeadsSomehow held turn last = (c : Cluster) (b : Book) → Held held c b → IsSound c b
    → ∥ ((done : Session) × (book next : Book) × Did c b turn.deed done book × Follows turn.end c book next × Held last c next) ∥₁

-- The job opens a register's file, to ask the register.
abbrev pub AsksRegister : Job → Type 0
AsksRegister (job.Serve db port count seconds memory) = ⊤
AsksRegister (job.Ask db numbered) = ⊤
AsksRegister (job.Report db query) = ⊤
AsksRegister (job.Picture db variant since supplier) = ⊤
AsksRegister (job.Deliver db delivery) = ⊤
AsksRegister _ = ⊥

-- Each book that the file held it holds next.
abbrev pub HoldsOn : Image → Image → Type 0
HoldsOn held next = (c : Cluster) (b : Book) → Held held c b → ∥ Held next c b ∥₁

-- By this fault it is clear what is left of a file that was not opened. Of files in which no database was opened it is not for `Unavailable`.
abbrev pub IsClear : {D : Type 0} {g : Ghosts D} → Leftover D g → Fault → Type 0
IsClear (left.Files files) fault = ⊤
IsClear (left.Unopened files) fault = fault ≢ Register Unavailable
IsClear (left.Store it) fault = ⊤

-- The job ended by this fault, and told it, as one that did not open the file does: nothing was printed, and no connection came in. What is
-- left, where that is clear, holds next each book that the file held.
abbrev pub WasNotOpened : {D O E : Type 0} {g : Ghosts D} {printed : SinkGhosts O} {told : SinkGhosts E} → Image → Option (Leftover D g) → Comings → Streams printed told → ℕ
    → Type 0
WasNotOpened {D} {g = g} held rest comings s status =
    (fault : Fault) × ((rest ≡ None) ⊎ IsNotOpened held rest fault) × Shows (Err (failure.Fault fault)) s status × comings.none
    × ((left : Leftover D g) (next : Image) → rest ≡ Some left → IsClear left fault → IsCleanLeft left → IsNextOf left next → HoldsOn held next)

-- While a job was done, these registers' files became those, and so did files of text and a listener. What is said of a register that is open; and of a job that was
-- done, and left this of its file.
module _ {D K G GF GR GW F R L I W O E : Type 0} (g : Ghosts D) (desk : Desk.Ghosts K) (registers : Registers.Ghosts G GF GR GW) (texts : TextFiles.Ghosts F R) (reader : Read.Ghosts R)
    (listener : Listener.Ghosts L I W) (from : SourceGhosts I) (to : SinkGhosts W) (printed : SinkGhosts O) (told : SinkGhosts E) where
  -- Where a register's file was made, it was of the cluster file that was read at the path, and holds next the book of its new register, which is
  -- sound.
  abbrev pub MadeIsHeld : Type 0
  MadeIsHeld = (held next : Image) (left : Leftover D g) (early late : G) (before after : F) (old new : L) (db config : Bor (List ℕ)) (s : Streams printed told)
      → IsPerformed desk held (Some left) (readings texts reader before after) (handlings registers early late) (comings listener from to old new) (job.Create db config) s 0
      → IsCleanLeft left → IsNextOf left next
      → (f : ClusterFile) × IsClusterAt (readings texts reader before after) config.now f × Held next f.cluster (opening f) × IsSound f.cluster (opening f)

  -- A job that asks the register of a file did such a deed, and that leads from what the file held to what it holds next; or it ended as one
  -- that did not open the file, and asked nothing.
  abbrev pub JobLeads : Type 0
  JobLeads = (held : Image) (rest : Option (Leftover D g)) (early late : G) (before after : F) (old new : L) (job : Job) (s : Streams printed told) (status : ℕ)
      → IsPerformed desk held rest (readings texts reader before after) (handlings registers early late) (comings listener from to old new) job s status → AsksRegister job
      → WasNotOpened held rest (comings listener from to old new) s status
      ⊎ ((left : Leftover D g) × (rest ≡ Some left)
      × (deed : Deed) × IsDeedOf (readings texts reader before after) (comings listener from to old new) s status job deed
      × ((next : Image) → IsCleanLeft left → IsNextOf left next → LeadsBy held (record { deed = deed; end = end_of left }) next))

-- ---- one after another

-- One after another turns lead from what the file held at first to what it holds at last.
abbrev pub AllLeadBy : Image → List Turn → Image → Type 0
AllLeadBy held [] last = last ≡ held
AllLeadBy held (turn ∷ turns) last = (next : Image) × LeadsBy held turn next × AllLeadBy next turns last

-- the requests of one session and those of another behind them
abbrev pub joined : Session → Session → Session
joined first rest = record { asks = first.asks ++ rest.asks; answers = first.answers ++ rest.answers }

-- From this book one request more, with the answer of its step, leads to the next.
abbrev pub AddsOne : Cluster → Book → Session → Book → Type 0
AddsOne c b more next = (ask : Ask)
    × (more ≡ session_of ((ask, (step c b ask.actor ask.request).answer) ∷ [])) × (next ≡ (step c b ask.actor ask.request).book)

-- What came behind a deed whose files were left so: nothing; or one request more, if they failed to close.
abbrev pub Adds : End → Cluster → Book → Session → Book → Type 0
Adds Closed c b more next = WasLeft b more next
Adds Unclosed c b more next = WasLeft b more next ⊎ AddsOne c b more next

-- These are all requests of the turns, in order, each deed's and behind them what may have come at its end. The first deed begins from this book, and
-- each of the others from the one to which that led. The last of them led to the last book.
abbrev pub AreAllBy : Cluster → Book → List Turn → Session → Book → Type 0
AreAllBy c b [] all last = WasLeft b all last
AreAllBy c b (turn ∷ turns) all last = (done more rest : Session) × (book next : Book) × Did c b turn.deed done book
    × Adds turn.end c book more next × AreAllBy c next turns rest last × (all ≡ joined done (joined more rest))

-- From a sound book that the file held at first, it holds at last the one after all requests of the turns, which were answered as
-- promised: to each supplier as if it were alone, and free of collisions after each.
abbrev pub JobsAreKept : Type 0
JobsAreKept = (held last : Image) (turns : List Turn) → AllLeadBy held turns last
    → (c : Cluster) (b : Book) → Held held c b → IsSound c b
    → (all : Session) × (book : Book) × AreAllBy c b turns all book
    × WereAnswered (λ x. (x ≡ book) × Held last c x) c b all.asks all.answers

-- ---- one after another, and some that were stopped, or did not open the file

-- One after another jobs lead from what the file held at first to what it holds at last: each by its turn. That of a job that was stopped behind an
-- answer is the front of its deed, left unclosed. A job that did not open the file leads by none: each book that the file held it holds next.
abbrev pub AllLeadOn : Image → List (Option Turn) → Image → Type 0
AllLeadOn held [] last = last ≡ held
AllLeadOn held (Some turn ∷ jobs) last = (next : Image) × LeadsSomehow held turn next × AllLeadOn next jobs last
AllLeadOn held (None ∷ jobs) last = (next : Image) × HoldsOn held next × AllLeadOn next jobs last

-- the turns of jobs
abbrev pub turns_of : List (Option Turn) → List Turn
turns_of [] = []
turns_of (Some turn ∷ jobs) = turn ∷ turns_of jobs
turns_of (None ∷ jobs) = turns_of jobs

-- From a sound book that the file held at first, it holds at last the one after all requests of the turns, whatever jobs were stopped, and whatever jobs
-- came between them that did not open it; and all was answered as promised.
abbrev pub AllJobsAreKept : Type 0
AllJobsAreKept = (held last : Image) (jobs : List (Option Turn)) → AllLeadOn held jobs last
    → (c : Cluster) (b : Book) → Held held c b → IsSound c b
    → ∥ ((all : Session) × (book : Book) × AreAllBy c b (turns_of jobs) all book
    × WereAnswered (λ x. (x ≡ book) × Held last c x) c b all.asks all.answers) ∥₁
