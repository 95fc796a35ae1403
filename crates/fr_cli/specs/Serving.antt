-- Server: its connections are exchanges with the register, one after another, with the bytes that were read and written; how
-- each ended, and to which book they lead. Behind each the register stands for the book after it. Of each that failed a line is
-- told. Those of a register in a file lead from the book that the file held, and what is left holds the book after them. The line
-- of a server that listens is printed.
use Rattle.std.specs.Prelude.{◌≡◌, ◌⊎◌, ◌≤◌, ℕ, List, [], ◌∷◌, length, map, Option, Result, Err, IfErr, MatchResult, OnOk, ⊤}
use Rattle.std.specs.Io.KnownBytes.{Appends}
use Rattle.sqlite.specs.Files.{IsCleanLeft}
use Rattle.sqlite.specs.declared.file.Leftover.{Leftover}
use Rattle.sqlite_disk.specs.declared.Disk.{Ghosts}
use Rattle.sqlite_wal.specs.Recovery.{Image}
use Rattle.fr_base.specs.Book.{Book}
use Rattle.fr_base.specs.Desks.{InSound}
use Rattle.fr_base.specs.declared.desk.Desk as Desk
use Rattle.fr_desks.specs.FileDesk.{Held, IsLeftWith}
use Rattle.fr_http.specs.Exchanges.{AreExchanged, Exchanged, IsExchange}
use Rattle.fr_http.specs.declared.fault.LinkFault.{LinkFault}
use Rattle.fr_http.specs.declared.serve.Served.{Served}
use Rattle.fr_world.specs.Held.{Standing}
use Rattle.fr_cli.specs.Endings.{NamesFault}
use Rattle.fr_cli.specs.Faults.{IsNotOpened, link_word}
use Rattle.fr_cli.specs.Performing.{listening}
use Rattle.fr_cli.specs.Opened.{IsOver}
use Rattle.fr_cli.specs.Outlets.{IsCutShort, IsSaid, Outlet, held_before, held_behind}
use Rattle.fr_cli.specs.Visits.{Comings, MayListen, SinkGhosts, Visit, visit_of}
use Rattle.fr_cli.specs.declared.fault.Fault.{Fault}
use Rattle.fr_cli.specs.declared.fault.Fault.TheVariants.{CannotListen, NoMemory, Register, WriteFailed}
use Rattle.fr_cli.specs.declared.streams.listener.Listener as Listener
use Rattle.fr_cli.specs.declared.jobs.serve.Service.{Service}
use Rattle.fr_store.specs.declared.fault.StoreFault.TheVariants.{Unavailable}

-- In each sound book for which the register stood, as long as it is clean, there was an exchange with exactly these bytes, which ended so, and
-- the register stands for the book after it.
abbrev pub ServesOne : Type 0 → Standing → Standing → Visit → Type 0
ServesOne clean old new visit = clean → InSound old (λ c b. (x : Exchanged) × (last : Book) × (visit_of x ≡ visit) × IsExchange c b x last × new c last)

-- There were such exchanges, one after another.
abbrev pub ServesAll : Type 0 → Standing → Standing → List Visit → Type 0
ServesAll clean old new visits =
    clean → InSound old (λ c b. (xs : List Exchanged) × (last : Book) × (map visit_of xs ≡ visits) × AreExchanged c b xs last × new c last)

-- From the first register to the last there were such exchanges, one after another. As long as the last register is clean, there was a register behind
-- each exchange. From a sound book on it stood for the book after that exchange. It was clean if the next one was.
abbrev pub ServesEach : {D : Type 0} → (D → Type 0) → (D → Standing) → D → D → List Visit → Type 0
ServesEach clean stands old new [] = new ≡ old
ServesEach {D} clean stands old new (visit ∷ visits) = (mid : D) × (clean mid → clean old) × ServesOne (clean mid) (stands old) (stands mid) visit
    × ServesEach clean stands mid new visits

-- Nothing is told of a connection that was served; of a fault that ended it its line, as far as no write failed.
abbrev pub TellsEnd : {E : Type 0} → SinkGhosts E → E → E → Result Served LinkFault → Type 0
TellsEnd sink old new done = MatchResult done (λ _. new ≡ old) (λ fault. NamesFault sink (link_word fault) old new)

-- Of each fault that ended a connection its line was told, as far as no write failed; and nothing else.
abbrev pub TellsEach : {E : Type 0} → SinkGhosts E → E → E → List Visit → Type 0
TellsEach sink old new [] = new ≡ old
TellsEach {E} sink old new (visit ∷ visits) = (mid : E) × TellsEnd sink old mid visit.done × TellsEach sink mid new visits

-- For this a server that has opened its register ends early, behind such connections. It cannot listen only where this is said of its
-- listener. For want of memory, or because its line was cut short, it ends only before the first of them. That the register is
-- `Unavailable` may end it at any time.
abbrev pub StopsServing : Type 0 → Type 0 → List Visit → Fault → Type 0
StopsServing cut deaf visits fault = ((fault ≡ CannotListen) × deaf) ⊎ (fault ≡ Register Unavailable)
    ⊎ ((visits ≡ []) × ((fault ≡ NoMemory) ⊎ ((fault ≡ WriteFailed) × cut)))

-- Connections that came in so were served so, one after another: all that were to be; or no more than those, and a fault came. The ends
-- of those that failed were told. None was served before this was said of the server.
pub record HasServed {E : Type 0} {sink : SinkGhosts E} (WereServed : List Visit → Type 0) (count : ℕ) (said cut deaf : Type 0) (CameIn : List Visit → Type 0) (err : Outlet sink)
    (done : Result ⊤ Fault) : Type 0 where
  pub visits : List Visit
  pub came_in : CameIn visits
  pub served : WereServed visits
  pub told : TellsEach sink err.old err.new visits
  pub all : OnOk done (length visits ≡ count)
  pub few : length visits ≤ count
  pub fault : IfErr done (StopsServing cut deaf visits)
  pub first : (visits ≡ []) ⊎ said

-- All of the line was printed that says where the server listens.
abbrev pub WasAnnounced : {O : Type 0} {sink : SinkGhosts O} → ℕ → Outlet sink → Type 0
WasAnnounced port out = Appends (held_before out) (held_behind out) (listening port)

-- It was printed, as far as no write failed; or a fault ended it, and nothing was printed. Nothing was
-- printed unless this is said of its listener.
abbrev pub IsAnnounced : {O : Type 0} {sink : SinkGhosts O} → Type 0 → ℕ → Outlet sink → Result ⊤ Fault → Type 0
IsAnnounced listens port out done =
    ((out.new ≡ out.old) ⊎ (listens × IsSaid out (listening port))) × OnOk done (WasAnnounced port out)

-- The same of a listener.
abbrev pub Announces : {L R W O : Type 0} {sink : SinkGhosts O} → Listener.Ghosts L R W → Service → L → Outlet sink → Result ⊤ Fault → Type 0
Announces listener service first out done = IsAnnounced (MayListen listener service.port first) service.port out done

-- What is said of connections that were served over a file. As long as nobody else wrote to it, they were served from the book that it held, and what is
-- left holds the book after them. And there was a register behind each connection, from the first one to the last.
abbrev pub ServesOver : {D R : Type 0} {g : Ghosts D} → Desk.Ghosts R → Image → Leftover D g → R → R → List Visit → Type 0
ServesOver desk file last old new visits = ServesAll (IsCleanLeft last) (Held file) (IsLeftWith last) visits × ServesEach desk.clean desk.stands old new visits

-- The register was not opened, nothing was printed or told, and this stayed as it was; or its file was opened, which held a register, and connections that
-- came in so were served: as long as nobody else wrote to the file, from the book that it held, and what is left holds the book after them. From the register that was
-- opened over the file to the one that was closed there was one behind each connection. The line that says where the server listens was printed before.
unfoldable pub IsServed : {D R O E : Type 0} {g : Ghosts D} {printed : SinkGhosts O} {told : SinkGhosts E} → Desk.Ghosts R → Image → Option (Leftover D g) → ℕ → ℕ → Type 0 → Type 0
    → (List Visit → Type 0) → Outlet printed → Outlet told → Result ⊤ Fault → Type 0
IsServed {D} {R} {g = g} desk file rest port count stayed deaf CameIn out err done =
    ((fault : Fault) × (done ≡ Err fault) × IsNotOpened file rest fault × stayed × (out.new ≡ out.old) × (err.new ≡ err.old))
    ⊎ ((last : Leftover D g) × (old : R) × (new : R) × IsOver file rest last (desk.clean new) (desk.stands old) (desk.stands new)
    × HasServed (ServesOver desk file last old new) count (WasAnnounced port out) (IsCutShort out (listening port)) deaf CameIn err done)

-- The same of a service, with the line that says where the server listens.
abbrev pub IsServedOver : {D R O E : Type 0} {g : Ghosts D} {printed : SinkGhosts O} {told : SinkGhosts E} → Desk.Ghosts R → Image → Option (Leftover D g) → Service → Comings
    → Outlet printed → Outlet told → Result ⊤ Fault → Type 0
IsServedOver desk file rest service came out err done = IsAnnounced (came.heard service.port) service.port out done
    × IsServed desk file rest service.port service.count came.none (came.deaf service.port) (came.at service.port service.seconds) out err done
