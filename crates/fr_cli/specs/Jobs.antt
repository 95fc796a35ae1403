-- Jobs: what each job does. With which status it ends, what it reads, prints and tells, and what is left of its file.
use Rattle.std.specs.Prelude.{◌≡◌, ◌≢◌, ℕ, List, [], codes, IfErr, Option, None, Result, ⊤}
use Rattle.std.specs.Global.{Vec}
use Rattle.std.specs.Io.KnownBytes.{Keeps}
use Rattle.fr_base.specs.declared.desk.Desk as Desk
use Rattle.fr_picture.specs.Pages.{IsPage}
use Rattle.fr_picture.specs.Plans.{since_of}
use Rattle.sqlite.specs.declared.file.Leftover.{Leftover}
use Rattle.sqlite_disk.specs.declared.Disk.{Ghosts}
use Rattle.sqlite_wal.specs.Recovery.{Image}
use Rattle.fr_cli.specs.SingleRequest.{IsForReader, query_of}
use Rattle.fr_cli.specs.Checking.{IsCheckedFile}
use Rattle.fr_cli.specs.Endings.{IsTold, Tells, status_of}
use Rattle.fr_cli.specs.Explaining.{IsExplained}
use Rattle.fr_cli.specs.Handlings.{AreUntouched, Handlings, IsDeliveredAt, IsMadeAt, IsOpenedAt}
use Rattle.fr_cli.specs.Faults.{IsNotCreated, IsNotDelivered, IsNotMigrated, IsNotReported}
use Rattle.fr_cli.specs.RequestStream.{IsAsked}
use Rattle.fr_cli.specs.Outlets.{Outlet, StopsSo, held_before, held_behind, outlet}
use Rattle.fr_cli.specs.Performing.{Says, of_script}
use Rattle.fr_cli.specs.Picturing.{plans_for}
use Rattle.fr_cli.specs.Queries.{reader_named}
use Rattle.fr_cli.specs.Reading.{PrintsRead}
use Rattle.fr_cli.specs.RegisterFiles.{IsAnswerOfFile, IsCreated, IsDeliveryToFile, IsMoved, IsReadOfFile}
use Rattle.fr_cli.specs.Runs.{IsRunOf}
use Rattle.fr_cli.specs.Serving.{IsAnnounced, IsServed}
use Rattle.fr_cli.specs.Texts.{Readings}
use Rattle.fr_cli.specs.Visits.{Comings, SinkGhosts}
use Rattle.fr_cli.specs.declared.failure.Failure.{Failure}
use Rattle.fr_cli.specs.declared.fault.Fault.{Fault}
use Rattle.fr_cli.specs.declared.script_fault.ScriptFault.{ScriptFault}
use Rattle.fr_cli.specs.declared.words.Job.{Job}
use Rattle.fr_cli.specs.declared.words.Job.TheVariants as job

-- what an input has still to give, before and after a job
pub record Inlet : Type 0 where
  pub old : Option (List ℕ)
  pub new : Option (List ℕ)

-- standard input, output and error, and what is said of the writers
pub record Streams {O E : Type 0} (printed : SinkGhosts O) (told : SinkGhosts E) : Type 0 where
  pub input : Inlet
  pub out : Outlet printed
  pub err : Outlet told

-- A job ended so: the status says whether it was done, and standard error has the word of the fault where it was not.
abbrev pub Ends : {O E : Type 0} {printed : SinkGhosts O} {told : SinkGhosts E} → Result ⊤ Fault → Streams printed told → ℕ → Type 0
Ends {told = told} done s status = (status ≡ status_of done) × Tells told s.err.old s.err.new done

-- A job that gives a text ended so: the text is printed, or why there is none is told.
abbrev pub Shows : {O E : Type 0} {printed : SinkGhosts O} {told : SinkGhosts E} → Result (Vec ℕ) Failure → Streams printed told → ℕ → Type 0
Shows done s status = IsTold s.out s.err done status

-- the path of the register's file at which a job is done, if it is done at one
abbrev pub path_of : Job → List ℕ
path_of (job.Create db config) = db.now
path_of (job.Migrate db) = db.now
path_of (job.Serve db port count seconds memory) = db.now
path_of (job.Ask db numbered) = db.now
path_of (job.Report db query) = db.now
path_of (job.Picture db variant since supplier) = db.now
path_of (job.Deliver db delivery) = db.now
path_of _ = []

-- What is said of a register that is open; what a job's register file held, and what is left of it; what was read of text files; what was done with
-- registers' files; and the connections that came in.
module _ {D R O E : Type 0} {g : Ghosts D} {printed : SinkGhosts O} {told : SinkGhosts E} (desk : Desk.Ghosts R) (held : Image) (rest : Option (Leftover D g)) (read : Readings)
    (files : Handlings) (comings : Comings) where
  -- a register file was made of the cluster file at this path
  abbrev pub Creates : List ℕ → Streams printed told → ℕ → Type 0
  Creates config s status = (done : Result ⊤ Fault) × IfErr done (IsNotCreated held rest read config) × IsCreated held rest read config done
      × (s.out.new ≡ s.out.old) × Ends done s status

  -- a register file was brought to this schema
  abbrev pub Migrates : Streams printed told → ℕ → Type 0
  Migrates s status = (done : Result ⊤ Fault) × IfErr done (IsNotMigrated held rest) × IsMoved held rest done
      × (s.out.new ≡ s.out.old) × Ends done s status

  -- connections were served
  abbrev pub Serves : ℕ → ℕ → ℕ → Streams printed told → ℕ → Type 0
  Serves port count seconds s status = (done : Result ⊤ Fault) × (mid : E) × (status ≡ status_of done)
      × IsAnnounced (comings.heard port) port s.out done
      × IsServed desk held rest port count comings.none (comings.deaf port) (comings.at port seconds) s.out (outlet told s.err.old mid) done
      × Tells told mid s.err.new done

  -- Standard input stays, and no connection came in.
  abbrev Quiet : Streams printed told → Type 0
  Quiet s = Keeps s.input.old s.input.new × comings.none

  -- What the job does.
  unfoldable pub IsPerformed : Job → Streams printed told → ℕ → Type 0
  IsPerformed (job.Run numbered) s status = (done : Result ⊤ ScriptFault) × IsRunOf numbered s.input.old s.input.new (held_before s.out) (held_behind s.out) done
      × StopsSo printed s.out.new done
      × Ends (of_script done) s status × read.none × comings.none × AreUntouched files rest
  IsPerformed (job.Create db config) s status = Creates config.now s status × Quiet s × IsMadeAt files rest read db.now config.now
  IsPerformed (job.Migrate db) s status = Migrates s status × read.none × Quiet s × files.migrated db.now
  IsPerformed (job.Serve db port count seconds memory) s status = Serves port count seconds s status × read.none × Keeps s.input.old s.input.new × IsOpenedAt files rest db.now
  IsPerformed (job.Ask db numbered) s status = (done : Result ⊤ Fault) × IsAsked numbered desk held rest s.input.old s.input.new s.out done
      × Ends done s status × read.none × comings.none × IsOpenedAt files rest db.now
  IsPerformed (job.Report db query) s status = (done : Result (Vec ℕ) Failure) × Shows done s status
      × Says (IsNotReported held rest) (IsForReader (IsAnswerOfFile held rest (query_of query))) done × read.none × Quiet s × IsOpenedAt files rest db.now
  IsPerformed (job.Picture db variant since supplier) s status = (done : Result (Vec ℕ) Failure) × Shows done s status
      × PrintsRead (IsNotReported held rest) (IsReadOfFile held rest (plans_for (reader_named supplier) variant.now (since_of since))) IsPage done × read.none × Quiet s × IsOpenedAt files rest db.now
  IsPerformed (job.Deliver db delivery) s status = (done : Result (Vec ℕ) Failure) × Shows done s status
      × Says (IsNotDelivered held rest read delivery s.input.old s.input.new) (IsDeliveryToFile held rest read delivery s.input.old s.input.new) done
      × (delivery.key.now ≢ codes "-" → Keeps s.input.old s.input.new) × comings.none
      × IsDeliveredAt files rest read db.now delivery s.input.old s.input.new
  IsPerformed (job.Check file) s status = (done : Result (Vec ℕ) Failure) × Shows done s status × IsCheckedFile read files.hindered file done × Quiet s × AreUntouched files rest
  IsPerformed (job.Explain word) s status = (done : Result (Vec ℕ) Failure) × Shows done s status × IsExplained word done × read.none × Quiet s × AreUntouched files rest
