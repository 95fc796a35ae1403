-- What is printed of what was read of a register, and of one in a file.
use Rattle.std.proofs.Common.{◌≡◌, List, ℕ, Option, Ok, Err, Result, inl, inr, refl, subst, sym}
use Rattle.std.specs.Global.{Vec}
use Rattle.fr_base.specs.declared.actor.Actor.{Actor}
use Rattle.fr_base.specs.declared.answer.Answer.TheVariants as answer
use Rattle.fr_base.specs.declared.desk.Desk as Desk
use Rattle.fr_base.specs.declared.refusal.Refusal.{Refusal}
use Rattle.fr_world.specs.Held.{Standing}
use Rattle.sqlite.specs.declared.file.Leftover.{Leftover}
use Rattle.sqlite_disk.specs.declared.Disk.{Ghosts}
use Rattle.sqlite_wal.specs.Recovery.{Image}
use Rattle.fr_cli.specs.Reading.{IsRead, PrintsRead, Reading, Stays}
use Rattle.fr_cli.specs.RegisterFiles.{IsReadOfFile}
use Rattle.fr_cli.specs.SingleRequest.{IsRefusedBy, for_reader}
use Rattle.fr_cli.proofs.RegisterTaskLaws.{done_over}
use Rattle.fr_cli.proofs.SingleRequestLaws.{stays_file}
use Rattle.fr_cli.specs.RegisterTasks.{IsDoneOver, tells}
use Rattle.fr_cli.specs.Opened.{IsOver}
use Rattle.fr_cli.specs.Faults.{IsNotReported}
use Rattle.fr_cli.specs.Picturing.{plans_for}
use Rattle.fr_cli.specs.Queries.{reader_named}
use Rattle.fr_cli.specs.declared.jobs.print_task.PrintTask.TheVariants as print_task
use Rattle.fr_picture.specs.Pages.{IsPage}
use Rattle.fr_picture.specs.Plans.{since_of}
use Rattle.std.specs.Borrow.{Bor}
use Rattle.fr_cli.specs.declared.failure.Failure.{Failure}
use Rattle.fr_cli.specs.declared.failure.Failure.TheVariants as failure
use Rattle.fr_cli.specs.declared.fault.Fault.{Fault}
use Rattle.fr_cli.specs.declared.fault.Fault.TheVariants.{NoMemory}

module _ {X : Type 0} where
  -- the book that is read stays
  pub reads_stay : (clean : Type 0) (old new : Standing) (may : Reading X) (r : Result X Refusal) → IsRead may clean old new r → Stays clean old new
  reads_stay clean old new may r read = λ is c b stands sound. (read is c b stands sound).0

  -- what one reader is told is told to another that is the same
  pub read_same : (clean : Type 0) (old new : Standing) (may : Option Actor → Reading X) (reader wanted : Option Actor) (r : Result X Refusal) → reader ≡ wanted
      → IsRead (may reader) clean old new r → IsRead (may wanted) clean old new r
  read_same clean old new may reader wanted r is read = subst (λ who. IsRead (may who) clean old new r) is read

  -- the line of a refusal, or no memory for it
  pub refused_reading : (Is : Result X Refusal → Type 0) (IsText : X → List ℕ → Type 0) (refusal : Refusal) (f : Failure) → Is (Err refusal)
      → IsRefusedBy (for_reader (answer.Refused refusal)) f → PrintsRead (λ fault. fault ≡ NoMemory) Is IsText (Err f)
  refused_reading Is IsText refusal (failure.RefusedRows text) is by = by
  refused_reading Is IsText refusal (failure.UnplacedWishes file lines) is by = by
  refused_reading Is IsText refusal (failure.Refused line) is by = (refusal, is, by)
  refused_reading Is IsText refusal (failure.Fault fault) is by = by

  -- what was printed is said of what follows of it
  reading_says : (May : Fault → Type 0) (Is Was : Result X Refusal → Type 0) (IsText : X → List ℕ → Type 0) (done : Result (Vec ℕ) Failure) → ((r : Result X Refusal) → Was r → Is r)
      → May NoMemory → PrintsRead (λ fault. fault ≡ NoMemory) Was IsText done → PrintsRead May Is IsText done
  reading_says May Is Was IsText (Ok text) follows may p = (p.0, follows (Ok p.0) p.1, p.2)
  reading_says May Is Was IsText (Err (failure.RefusedRows text)) follows may p = p
  reading_says May Is Was IsText (Err (failure.UnplacedWishes file lines)) follows may p = p
  reading_says May Is Was IsText (Err (failure.Refused line)) follows may p = (p.0, follows (Err p.0) p.1, p.2)
  reading_says May Is Was IsText (Err (failure.Fault fault)) follows may p = subst May (sym p) may

module _ {D : Type 0} {g : Ghosts D} {held : Image} {rest : Option (Leftover D g)} where
  -- what was read of a register over a file was read of the file
  reads_file : {X : Type 0} {last : Leftover D g} {clean : Type 0} {old new : Standing} → IsOver held rest last clean old new → (may : Reading X) (r : Result X Refusal)
      → IsRead may clean old new r → IsReadOfFile held rest may r
  reads_file {last = last} over may r is = (
    last,
    over.left,
    λ kept c b there sound.
        let up = over.closes kept in let read = is up c b (over.finds up c b there) sound in (over.leaves c b read.0, read.1),
  )

  -- so the page that is printed is that of the file
  pub pictured_over : {R : Type 0} {desk : Desk.Ghosts R} {same : Type 0} {done : Result (Vec ℕ) Failure} (variant : Bor (List ℕ)) (since supplier : Option (Bor (List ℕ)))
      → IsDoneOver held rest desk (λ fault of. of ≡ failure.Fault fault) same (tells (print_task.Picture variant since supplier)) done
      → PrintsRead (IsNotReported held rest) (IsReadOfFile held rest (plans_for (reader_named supplier) variant.now (since_of since))) IsPage done
  pictured_over variant since supplier is =
      let may = plans_for (reader_named supplier) variant.now (since_of since) in
      done_over failure.Fault (PrintsRead (IsNotReported held rest) (IsReadOfFile held rest may) IsPage) (tells (print_task.Picture variant since supplier)) is (λ fault not kept. inl not)
      (λ last old new over did. reading_says _ _ _ IsPage _ (reads_file over may) (inr (refl, stays_file over did.1)) did.0)
