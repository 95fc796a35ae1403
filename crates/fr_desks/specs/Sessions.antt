-- Sessions: what is done with one register's files, one session after another. In each a desk is opened over them and
-- asked. Then it is closed; or the program or the machine stops, and a crash leaves of the files what it may. The next
-- session begins with what is left.
use Rattle.std.specs.Prelude.{◌≡◌, ◌⊎◌, List, [], ◌∷◌, ◌++◌}
use Rattle.sqlite_disk.specs.declared.Disk.{Ghosts}
use Rattle.sqlite_disk.specs.declared.Files.{Files}
use Rattle.sqlite_wal.specs.Files.{outcomes}
use Rattle.sqlite_wal.specs.Reads.{AreClean}
use Rattle.sqlite_wal.specs.Recovery.{Image}
use Rattle.fr_base.specs.Book.{Book}
use Rattle.fr_base.specs.Cluster.{Cluster}
use Rattle.fr_base.specs.Run.{IsRun}
use Rattle.fr_base.specs.Sound.{IsSound}
use Rattle.fr_base.specs.declared.answer.Answer.{Answer}
use Rattle.fr_base.specs.declared.request.Ask.{Ask}
use Rattle.fr_desks.specs.FileDesk.{AreGivenUp, FindsHeld, Held, IsLeftBy, LeavesBook}
use Rattle.fr_office.specs.Crashed.{IsFound, WasLacking, WereAsked}
use Rattle.fr_office.specs.Headline.{WereAnswered}
use Rattle.fr_world.specs.Held.{Leaving, Standing}

-- what was asked, and what was answered
pub record Session : Type 0 where
  pub asks : List Ask
  pub answers : List Answer

-- The session leads from what files held to what they hold next: from each sound book that they held, to the one after all
-- that was answered, or after one request more, which had been answered Unavailable. And it is as promised.
abbrev pub Leads : Image → Session → Image → Type 0
Leads held session next = (c : Cluster) (b : Book) → Held held c b → IsSound c b
    → ∥ IsFound (Held next c) c b session.asks session.answers ∥₁

-- Nobody else wrote to the files of a desk. They were closed, and are next as they were left, or as a crash leaves them;
-- or the desk was given up, and they are next as a crash leaves them.
abbrev pub EndsWith : {D Desk : Type 0} → Ghosts D → (Desk → Standing) → (Desk → Leaving) → Desk → Image → Type 0
EndsWith {D} g stands leaves desk next = (files : Files D) × AreClean g files.log files.db
    × ((((c : Cluster) (b : Book) → stands desk c b → LeavesBook g files c b) × IsLeftBy g files next)
    ⊎ (AreGivenUp g (leaves desk) files × outcomes g files.log files.db next))

-- Each session leads so, in which a desk that was opened over the files was asked, and which ended with them.
abbrev pub SessionLeads : {D Desk : Type 0} → Ghosts D → (Desk → Standing) → (Desk → Standing) → (Desk → Leaving)
    → (Desk → Type 0) → (Desk → Type 0) → Image → Type 0
SessionLeads {D} {Desk} g warm stands leaves serves clean held =
    (first last : Desk) (session : Session) (next : Image)
    → FindsHeld held (clean first) (stands first) → clean first → serves first
    → WereAsked warm leaves first session.asks session.answers last → EndsWith g stands leaves last next
    → Leads held session next

-- One after another they lead from what the files held at first to what they hold at last.
abbrev pub AllLead : Image → List Session → Image → Type 0
AllLead held [] last = last ≡ held
AllLead held (session ∷ more) last = (next : Image) × Leads held session next × AllLead next more last

-- What was done in the session: all that was asked; or this and one request more, which had been answered Unavailable.
abbrev pub WasDone : Cluster → Book → Session → Session → Type 0
WasDone c b session done = (done ≡ session)
    ⊎ ((ask : Ask) × (answer : Answer) × WasLacking c b session.asks session.answers ask
    × (done ≡ record { asks = session.asks ++ ask ∷ []; answers = session.answers ++ answer ∷ [] }))

-- These are all requests of the sessions, in order, with what was done at the end of each. The first begins from this book, and each of the
-- others from the one to which that led.
abbrev pub AreAllOf : Cluster → Book → List Session → List Ask → List Answer → Type 0
AreAllOf c b [] asks answers = (asks ≡ []) × (answers ≡ [])
AreAllOf c b (session ∷ more) asks answers = (done rest : Session) × (next : Book)
    × WasDone c b session done × IsRun c b done.asks done.answers next × AreAllOf c next more rest.asks rest.answers
    × (asks ≡ done.asks ++ rest.asks) × (answers ≡ done.answers ++ rest.answers)

-- From a sound book that the files held at first, they hold at last the one after all requests of the sessions, which were
-- answered as promised: to each supplier as if it were alone, and free of collisions after each.
abbrev pub SessionsAreKept : Type 0
SessionsAreKept = (held last : Image) (sessions : List Session) → AllLead held sessions last
    → (c : Cluster) (b : Book) → Held held c b → IsSound c b
    → ∥ ((all : Session) × AreAllOf c b sessions all.asks all.answers
    × WereAnswered (Held last c) c b all.asks all.answers) ∥₁
