-- Requests that come in: all requests of an input are answered, or the first of them before a fault comes. Those of a
-- register in a file are answered from the book that the file held, and what is left holds the book after them.
use Rattle.std.specs.Prelude.{◌≡◌, ◌⊎◌, ◌<◌, ◌≤◌, ℕ, ◌+◌, Bool, List, ◌++◌, length, Option, Result, Err, IfErr, IfSome, IsErrOf, OnOk, ⊤}
use Rattle.std.specs.Io.KnownBytes.{Appends, Consumes, IsAtEnd, Keeps}
use Rattle.std.specs.List.{AllByRecursion}
use Rattle.std.specs.Str.Lines.{lines as text_lines}
use Rattle.fr_base.specs.declared.desk.Desk as Desk
use Rattle.fr_text.specs.declared.output.Output.{Output}
use Rattle.sqlite.specs.Files.{IsCleanLeft}
use Rattle.sqlite.specs.declared.file.Leftover.{Leftover}
use Rattle.sqlite_disk.specs.declared.Disk.{Ghosts}
use Rattle.sqlite_wal.specs.Recovery.{Image}
use Rattle.fr_desks.specs.FileDesk.{Held, IsLeftWith}
use Rattle.fr_cli.specs.AnsweredLines.{Account, AnswersLines, BeginWith, WasCutShort, account_by, account_of, both}
use Rattle.fr_cli.specs.Faults.{IsNotOpened}
use Rattle.fr_cli.specs.Numbered.{numbered_lines, without_numbers}
use Rattle.fr_cli.specs.Opened.{IsOver}
use Rattle.fr_cli.specs.Outlets.{Outlet, StopsSo, held_before, held_behind}
use Rattle.fr_cli.specs.Performing.{of_script}
use Rattle.fr_text.specs.Script.{HasNo, max_line, max_script, request_lines}
use Rattle.fr_cli.specs.ScriptFault.{script_fault_of}
use Rattle.fr_cli.specs.Visits.{SinkGhosts}
use Rattle.fr_cli.specs.declared.fault.Fault.{Fault}
use Rattle.fr_cli.specs.declared.streams.input.InputFault.{InputFault}
use Rattle.fr_cli.specs.declared.script_fault.ScriptFault.{ScriptFault}
use Rattle.fr_cli.specs.declared.script_fault.ScriptFault.TheVariants.{NoMemory, ReadFailed, TooLong, TooManyReads, Unavailable, WriteFailed}

-- These are the first requests of the input, with the numbers of their lines.
abbrev pub AreFirstOf : List (ℕ × List ℕ) → List ℕ → Type 0
AreFirstOf lines input = BeginWith (numbered_lines 1 input) lines

-- These are the first requests of these bytes, of which the first line has this number, whatever follows them.
abbrev pub AreFirstOfAll : ℕ → List ℕ → List (ℕ × List ℕ) → Type 0
AreFirstOfAll number bytes lines = (more : List ℕ) → BeginWith (numbered_lines number (bytes ++ more)) lines

-- The bytes end with the end of a line, or are none: what follows them has its own lines.
abbrev pub EndsLines : List ℕ → Type 0
EndsLines bytes = (more : List ℕ) → text_lines (bytes ++ more) ≡ text_lines bytes ++ text_lines more

-- For this the answering of a line ends that was read: there was no memory, its answer was not written, or the register has come to an end.
abbrev pub EndsAsking : ScriptFault → Type 0
EndsAsking fault = (fault ≡ NoMemory) ⊎ ((fault ≡ WriteFailed) ⊎ (fault ≡ Unavailable))

-- The lines were answered, and more may be asked; or a fault came, and the first of them were.
pub record WasAsked (numbered : Bool) (account : Account) (lines : List (ℕ × List ℕ)) (a b : Option (List ℕ)) (done : Result ⊤ ScriptFault) : Type 0 where
  pub all : OnOk done ((written : List ℕ) × Appends a b written × AnswersLines numbered account.all lines written)
  pub early : IfErr done (WasCutShort numbered account (BeginWith lines) (BeginWith lines) a b)
  pub faults : IfErr done EndsAsking

-- A register was asked what these lines ask, of which the first has this number, and the answers were written to an output; then more may be asked,
-- or a fault came. The register was clean before if it is now, and the output has the same writer still. A fault of writing came only where the last
-- call on it failed.
pub record HasAsked {D W : Type 0} (desk : Desk.Ghosts D) (writer : SinkGhosts W) (numbered : Bool) (number : ℕ) (lines : List ℕ) (old new : D) (held now : Output W) (done : Result ⊤ ScriptFault) : Type 0 where
  pub asked : WasAsked numbered (account_by desk old new) (numbered_lines number lines) (writer.contents held.writer.now) (writer.contents now.writer.now) done
  pub falls : desk.clean new → desk.clean old
  pub same_writer : now.writer.ghost_name ≡ held.writer.ghost_name
  pub stops : StopsSo writer now.writer.now done

-- No line is longer.
abbrev pub AreShort : List (List ℕ) → Type 0
AreShort = AllByRecursion (λ line. length line ≤ max_line)

-- More bytes than a line may have stand here without a line feed.
abbrev pub HasLongLine : List ℕ → Type 0
HasLongLine bytes = (front : List ℕ) × (line : List ℕ) × (rest : List ℕ) × (bytes ≡ front ++ (line ++ rest)) × HasNo 10 line × (max_line < length line)

-- Of these bytes, of which the first line has this number, the lines that have an end were answered, and the others begin the next line, which has no
-- end yet, and this number; or a fault came.
pub record HasHeard (numbered : Bool) (account : Account) (number next : ℕ) (bytes begun : List ℕ) (a b : Option (List ℕ)) (done : Result ⊤ ScriptFault) : Type 0 where
  pub heard : OnOk done ((front : List ℕ) × (written : List ℕ) × (bytes ≡ front ++ begun) × EndsLines front × (next ≡ number + length (text_lines front))
      × HasNo 10 begun × AreShort (request_lines front) × Appends a b written × AnswersLines numbered account.all (numbered_lines number front) written)
  pub early : IfErr done (WasCutShort numbered account (AreFirstOfAll number bytes) (AreFirstOfAll number bytes) a b)
  pub too_long : IsErrOf done TooLong → HasLongLine bytes

-- What was taken of the input is whole lines, which were answered and no others, and behind them bytes with no line's end.
abbrev pub AnswersEnded : Bool → Account → Option (List ℕ) → Option (List ℕ) → Option (List ℕ) → Option (List ℕ) → Type 0
AnswersEnded numbered account input left a b = (front : List ℕ) × (begun : List ℕ) × (written : List ℕ) × Consumes input left (front ++ begun)
    × EndsLines front × HasNo 10 begun × Appends a b written × AnswersLines numbered account.all (numbered_lines 1 front) written

-- The input's requests were all answered, and neither it nor one of them is too long; or the first of them were, and a fault came. Where it
-- was a fault of reading, each line whose end was taken was answered.
pub record HasAnswered (numbered : Bool) (account : Account) (input left a b : Option (List ℕ)) (done : Result ⊤ ScriptFault) : Type 0 where
  pub all : OnOk done ((lines : List (ℕ × List ℕ)) × (written : List ℕ) × IfSome input (λ bytes. (lines ≡ numbered_lines 1 bytes) × (length bytes ≤ max_script))
      × AreShort (without_numbers lines) × Appends a b written × AnswersLines numbered account.all lines written)
  pub early : IfErr done (WasCutShort numbered account (λ lines. IfSome input (AreFirstOf lines)) (λ lines. IfSome input (AreFirstOf lines)) a b)
  pub unread : IfErr done (λ fault. (fault ≡ ReadFailed) ⊎ (fault ≡ TooManyReads) → AnswersEnded numbered account input left a b)
  pub too_long : IsErrOf done TooLong → IfSome input (λ bytes. (max_script < length bytes) ⊎ HasLongLine bytes)
  pub faults : IfErr done (λ fault. (fault ≡ WriteFailed) ⊎ ((fault ≡ Unavailable) ⊎ ((of : InputFault) × (fault ≡ script_fault_of of))))

-- What is said of lines that were answered over a file. As long as nobody else wrote to it, they were answered from the book that it held, and what is
-- left holds the book after them. And there was a register behind each line, from the first one to the last.
abbrev pub account_over : {D R : Type 0} {g : Ghosts D} → Desk.Ghosts R → Image → Leftover D g → R → R → Account
account_over desk file last old new = both (account_of (IsCleanLeft last) (Held file) (IsLeftWith last)) (account_by desk old new)

-- The register was not opened, and nothing was read or written; or its file, which held a register, was opened and closed, and the
-- input's requests were answered, as far as no write failed: as long as nobody else wrote to the file, from the book that it held, and what is left holds the book after them. From
-- the register that was opened over the file to the one that was closed there was one behind each line.
unfoldable pub IsAsked : {D R O : Type 0} {g : Ghosts D} {printed : SinkGhosts O} → Bool → Desk.Ghosts R → Image → Option (Leftover D g) → Option (List ℕ) → Option (List ℕ) → Outlet printed
    → Result ⊤ Fault → Type 0
IsAsked {D} {R} {g = g} {printed = printed} numbered desk file rest input left out done =
    ((fault : Fault) × (done ≡ Err fault) × IsNotOpened file rest fault × Keeps input left × (out.new ≡ out.old))
    ⊎ ((asked : Result ⊤ ScriptFault) × (last : Leftover D g) × (old : R) × (new : R) × IsOver file rest last (desk.clean new) (desk.stands old) (desk.stands new)
    × (done ≡ of_script asked) × OnOk asked (IsAtEnd left) × StopsSo printed out.new asked × HasAnswered numbered (account_over desk file last old new) input left (held_before out) (held_behind out) asked)
