-- Ending: the status with which a job ends, and what standard output and standard error get. When its file failed to
-- close.
use Rattle.std.specs.Prelude.{◌≡◌, [], ◌∷◌, ℕ, List, ◌++◌, codes, MatchResult, Option, Some, None, Result, Ok, Err, ⊤}
use Rattle.std.specs.Global.{Vec}
use Rattle.sqlite.specs.declared.file.Leftover.{Leftover}
use Rattle.sqlite.specs.declared.file.Leftover.TheVariants as left
use Rattle.sqlite_disk.specs.declared.Disk.{Ghosts}
use Rattle.fr_text.specs.declared.output.WriteFailed.{WriteFailed}
use Rattle.fr_cli.specs.Faults.{fault_word}
use Rattle.fr_cli.specs.Outlets.{IsPut, IsSaid, IsWritten, Outlet, outlet}
use Rattle.fr_cli.specs.Visits.{SinkGhosts}
use Rattle.fr_cli.specs.declared.failure.Failure.{Failure}
use Rattle.fr_cli.specs.declared.failure.Failure.TheVariants as failure
use Rattle.fr_cli.specs.declared.fault.Fault.{Fault}
use Rattle.fr_cli.specs.declared.fault.Fault.TheVariants as fault

-- 0 where it was done, 1 where a fault ended it
abbrev pub status_of : Result ⊤ Fault → ℕ
status_of (Ok _) = 0
status_of (Err _) = 1

-- the line that names a fault
abbrev pub word_line : List ℕ → List ℕ
word_line word = codes "slotplan: " ++ word ++ codes "\n"

-- the pieces in which it is written
abbrev pub word_pieces : List ℕ → List (List ℕ)
word_pieces word = codes "slotplan: " ∷ word ∷ codes "\n" ∷ []

-- The line that names a fault was written, as far as no write failed.
abbrev pub NamesFault : {E : Type 0} → SinkGhosts E → List ℕ → E → E → Type 0
NamesFault sink word old new = (done : Result ⊤ WriteFailed) × IsWritten sink (word_line word) (word_pieces word) old new done

-- Nothing is said of what was done; of a fault its line, as far as no write failed.
abbrev pub Tells : {E : Type 0} → SinkGhosts E → E → E → Result ⊤ Fault → Type 0
Tells sink old new (Ok _) = new ≡ old
Tells sink old new (Err why) = NamesFault sink (fault_word why) old new

-- The text was printed; or a write to standard output failed, and that is said.
abbrev pub IsPrinted : {O E : Type 0} {printed : SinkGhosts O} {told : SinkGhosts E} → Outlet printed → Outlet told → List ℕ → ℕ → Type 0
IsPrinted {told = told} out err text status = (done : Result ⊤ WriteFailed) × IsPut out text done
    × MatchResult done (λ _. (status ≡ 0) × (err.new ≡ err.old)) (λ _. (status ≡ 1) × NamesFault told (fault_word fault.WriteFailed) err.old err.new)

-- What a job gives is printed. So is what it tells of rows that would be refused, and the status is 1. Of wishes without a placement it is said
-- which these are, the file of the others is printed, and the status is 1. Of another that is not done its
-- refusal's line is said, or its fault's, as far as no write failed.
abbrev pub IsTold : {O E : Type 0} {printed : SinkGhosts O} {told : SinkGhosts E} → Outlet printed → Outlet told → Result (Vec ℕ) Failure → ℕ → Type 0
IsTold out err (Ok text) status = IsPrinted out err text.items status
IsTold out err (Err (failure.RefusedRows text)) status = (status ≡ 1) × ((printed : ℕ) × IsPrinted out err text.items printed)
IsTold {E = E} {told = told} out err (Err (failure.UnplacedWishes file lines)) status = (status ≡ 1) × ((said : E) × (printed : ℕ) × IsSaid (outlet told err.old said) lines.items
    × IsPrinted out (outlet told said err.new) file.items printed)
IsTold out err (Err (failure.Refused line)) status = (status ≡ 1) × (out.new ≡ out.old) × IsSaid err line.items
IsTold {told = told} out err (Err (failure.Fault why)) status = (status ≡ 1) × (out.new ≡ out.old) × NamesFault told (fault_word why) err.old err.new

-- What is left of a job's file is the store that it had, since it failed to close, or to open.
abbrev pub FailedToClose : {D : Type 0} {g : Ghosts D} → Option (Leftover D g) → Type 0
FailedToClose None = ⊥
FailedToClose (Some (left.Files files)) = ⊥
FailedToClose (Some (left.Unopened files)) = ⊥
FailedToClose (Some (left.Store it)) = ⊤
