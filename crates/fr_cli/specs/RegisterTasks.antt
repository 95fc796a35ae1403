-- Register's tasks: what is done with a register whose file is opened for it, and closed behind it.
use Rattle.std.specs.Prelude.{◌≡◌, ◌⊎◌, ℕ, Bool, List, Option, Result, Err, OnOk, ⊤}
use Rattle.std.specs.Global.{Vec}
use Rattle.std.specs.Io.KnownBytes.{IsAtEnd}
use Rattle.sqlite.specs.declared.file.Leftover.{Leftover}
use Rattle.sqlite_disk.specs.declared.Disk.{Ghosts}
use Rattle.sqlite_wal.specs.Recovery.{Image}
use Rattle.fr_base.specs.declared.desk.Desk as Desk
use Rattle.fr_cli.specs.AnsweredLines.{account_by}
use Rattle.fr_cli.specs.SingleRequest.{IsAnswer, IsForReader, Leads, Prints, asked_with, query_of}
use Rattle.fr_cli.specs.Deliveries.{request_with}
use Rattle.fr_cli.specs.Faults.{IsNotOpened}
use Rattle.fr_cli.specs.RequestStream.{HasAnswered}
use Rattle.fr_cli.specs.Opened.{IsOver}
use Rattle.fr_cli.specs.Outlets.{IsCutShort, Outlet, StopsSo, held_before, held_behind}
use Rattle.fr_cli.specs.Performing.{listening, of_script}
use Rattle.fr_cli.specs.Picturing.{plans_for}
use Rattle.fr_cli.specs.Queries.{reader_named}
use Rattle.fr_cli.specs.Reading.{IsRead, PrintsRead, Stays}
use Rattle.fr_cli.specs.Serving.{HasServed, IsAnnounced, ServesEach, WasAnnounced}
use Rattle.fr_cli.specs.Visits.{Comings, SinkGhosts}
use Rattle.fr_cli.specs.declared.failure.Failure.{Failure}
use Rattle.fr_cli.specs.declared.fault.Fault.{Fault}
use Rattle.fr_cli.specs.declared.fault.Fault.TheVariants.{NoMemory}
use Rattle.fr_cli.specs.declared.script_fault.ScriptFault.{ScriptFault}
use Rattle.fr_cli.specs.declared.jobs.serve.Service.{Service}
use Rattle.fr_cli.specs.declared.jobs.print_task.PrintTask.{PrintTask}
use Rattle.fr_cli.specs.declared.jobs.print_task.PrintTask.TheVariants as print_task
use Rattle.fr_picture.specs.Pages.{IsPage}
use Rattle.fr_picture.specs.Plans.{since_of}

-- What is said of a thing that is done with a register, of whatever type: by the register before it and the one behind it.
abbrev pub Doing : Type 0 → Type 0 → Type 1
Doing X Y = (R : Type 0) → Desk.Ghosts R → R → R → Result X Y → Type 0

-- A report or a picture is told to its reader, and the book stays; or the answer to a delivery, and the book is the same, or the one after it.
abbrev pub tells : PrintTask → Doing (Vec ℕ) Failure
tells (print_task.Report query) R desk old new done =
    Prints (IsForReader (IsAnswer (query_of query) (desk.clean new) (desk.stands old) (desk.stands new))) done × Stays (desk.clean new) (desk.stands old) (desk.stands new)
tells (print_task.Picture variant since supplier) R desk old new done =
    PrintsRead (λ fault. fault ≡ NoMemory) (IsRead (plans_for (reader_named supplier) variant.now (since_of since)) (desk.clean new) (desk.stands old) (desk.stands new)) IsPage done
    × Stays (desk.clean new) (desk.stands old) (desk.stands new)
tells (print_task.Answer key delivery body) R desk old new done =
    let asks = asked_with key.now (request_with delivery body.now) in
    Prints (IsAnswer asks (desk.clean new) (desk.stands old) (desk.stands new)) done × Leads (desk.clean new) (desk.stands old) (desk.stands new) asks

-- The requests of an input are answered. There is a register behind each line.
abbrev pub AnswersInput : {O : Type 0} {printed : SinkGhosts O} → Bool → Option (List ℕ) → Option (List ℕ) → Outlet printed → Doing ⊤ Fault
AnswersInput {printed = printed} numbered input left out R desk old new done = (asked : Result ⊤ ScriptFault) × (done ≡ of_script asked) × OnOk asked (IsAtEnd left)
    × StopsSo printed out.new asked × HasAnswered numbered (account_by desk old new) input left (held_before out) (held_behind out) asked

-- Connections that come in are served. There is a register behind each. The line of a server that listens is printed, and the ends of those that
-- failed are told.
abbrev pub ServesConnections : {O E : Type 0} {printed : SinkGhosts O} {told : SinkGhosts E} → Service → Comings → Outlet printed → Outlet told → Doing ⊤ Fault
ServesConnections service came out err R desk old new done = IsAnnounced (came.heard service.port) service.port out done
    × HasServed (ServesEach desk.clean desk.stands old new) service.count (WasAnnounced service.port out) (IsCutShort out (listening service.port)) (came.deaf service.port)
    (came.at service.port service.seconds) err done

-- The file was not opened, for such a fault, and all else is the same; or this was done with a register over it.
abbrev pub IsDoneOver : {D R X Y : Type 0} {g : Ghosts D} → Image → Option (Leftover D g) → Desk.Ghosts R → (Fault → Y → Type 0) → Type 0 → Doing X Y
    → Result X Y → Type 0
IsDoneOver {D} {R} {X} {Y} {g} held rest desk gives same does done =
    ((fault : Fault) × IsNotOpened held rest fault × (of : Y) × (done ≡ Err of) × gives fault of × same)
    ⊎ ((last : Leftover D g) × (old : R) × (new : R) × IsOver held rest last (desk.clean new) (desk.stands old) (desk.stands new) × does R desk old new done)
