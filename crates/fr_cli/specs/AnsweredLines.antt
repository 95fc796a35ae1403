-- Answered lines: the bytes are the lines' answers, a line for each, which begins with the number of the line that it answers where lines are
-- numbered. The lines are a run from the sound book for which the register stood; it now stands for the book after them, and so it did behind each
-- line. How they are cut short by a fault: the first lines were carried out, and but for the end of one answer all is written.
use Rattle.std.specs.Prelude.{◌≡◌, ◌⊎◌, ℕ, Bool, List, [], ◌∷◌, ◌++◌, length, Option, Result, Err, OnOk, IfErr, IfOk, ⊤}
use Rattle.std.specs.Io.KnownBytes.{Appends}
use Rattle.fr_base.specs.Book.{Book}
use Rattle.fr_base.specs.Cluster.{Cluster}
use Rattle.fr_base.specs.Desks.{InSound}
use Rattle.fr_base.specs.Sound.{IsSound}
use Rattle.fr_base.specs.declared.answer.Answer.{Answer}
use Rattle.fr_base.specs.declared.desk.Desk as Desk
use Rattle.fr_base.specs.declared.refusal.Refusal.{Refusal}
use Rattle.fr_base.specs.declared.refusal.Refusal.TheVariants.{Unavailable}
use Rattle.fr_base.specs.declared.request.Ask.{Ask}
use Rattle.fr_cli.specs.Asked.{ask_in}
use Rattle.fr_cli.specs.Numbered.{answers_text, front_of, numbered_lines, without_numbers}
use Rattle.fr_cli.specs.Outcomes.{line_of}
use Rattle.fr_cli.specs.Outlets.{StopsSo}
use Rattle.fr_cli.specs.ScriptRun.{AreAnswered, Replied}
use Rattle.fr_cli.specs.Visits.{SinkGhosts}
use Rattle.fr_cli.specs.declared.script_fault.ScriptFault.{ScriptFault}
use Rattle.fr_cli.specs.declared.script_fault.ScriptFault.TheVariants.{NoMemory, WriteFailed}
use Rattle.fr_text.specs.declared.output.Output.{Output}
use Rattle.fr_world.specs.Held.{Standing}

-- What the line asks was read so, in a sound book; or memory was wanting.
abbrev pub Reads : Standing → List ℕ → Result Ask Refusal → Type 0
Reads old line read = (read ≡ Err Unavailable) ⊎ ((c : Cluster) (b : Book) → old c b → IsSound c b → read ≡ ask_in c b line)

-- In a sound book the line was answered so, and the records stand for the book after it.
abbrev pub AnswersLine : Standing → Standing → List ℕ → Answer → Type 0
AnswersLine old new line answer = (c : Cluster) (b : Book) → old c b → IsSound c b →
    (last : Book) × new c last × Replied c b (ask_in c b line) answer last

-- The line was answered so, as long as the register is clean; or a fault came.
abbrev pub GivesAnswer : {E : Type 0} → List ℕ → Type 0 → Standing → Standing → Result Answer E → Type 0
GivesAnswer line clean old new given = clean → IfOk given (AnswersLine old new line)

-- Whatever is so.
abbrev pub Anything : Standing
Anything c b = ⊤

-- As long as the register was clean, the lines were answered so from each sound book for which it stood, and now it stands for the book
-- after them.
abbrev pub AnswersAll : Type 0 → Standing → Standing → List (List ℕ) → List Answer → Type 0
AnswersAll clean old new lines answers = clean → InSound old (λ c b. (last : Book) × new c last × AreAnswered c b lines answers last)

-- The register stands for what it stood for, and it was clean if it is.
abbrev pub IsStill : {D : Type 0} → (D → Type 0) → (D → Standing) → D → D → Type 0
IsStill clean stands old new = (clean new → clean old) × (clean new → (c : Cluster) (b : Book) → stands old c b → stands new c b)

-- From the first register to the last the lines were answered so, one after another. As long as the last register is clean, there was a register
-- behind each line. From a sound book on it stood for the book after that line. It was clean if the next one was.
abbrev pub AnswersEach : {D : Type 0} → (D → Type 0) → (D → Standing) → D → D → List (List ℕ) → List Answer → Type 0
AnswersEach clean stands old new [] [] = IsStill clean stands old new
AnswersEach {D} clean stands old new (line ∷ lines) (answer ∷ answers) = (mid : D) × (clean mid → clean old)
    × (clean mid → AnswersLine (stands old) (stands mid) line answer) × AnswersEach clean stands mid new lines answers
AnswersEach clean stands old new [] (_ ∷ _) = ⊥
AnswersEach clean stands old new (_ ∷ _) [] = ⊥

-- What is said of lines and their answers: where these are all that were answered, and where they are the first of them.
pub record Account : Type 1 where
  pub all : List (List ℕ) → List Answer → Type 0
  pub first : List (List ℕ) → List Answer → Type 0

-- by what the register stood for, and stands for
abbrev pub account_of : Type 0 → Standing → Standing → Account
account_of clean old new = record { all = AnswersAll clean old new; first = AnswersAll clean old Anything }

-- by the register behind each line
abbrev pub account_by : {D : Type 0} → Desk.Ghosts D → D → D → Account
account_by {D} desk old new = record {
  all = AnswersEach desk.clean desk.stands old new;
  first = λ lines answers. (mid : D) × (desk.clean new → desk.clean mid) × AnswersEach desk.clean desk.stands old mid lines answers;
}

-- Both of these are said.
abbrev pub both : Account → Account → Account
both one other = record {
  all = λ lines answers. one.all lines answers × other.all lines answers;
  first = λ lines answers. one.first lines answers × other.first lines answers;
}

-- These bytes are the answers to lines that have these numbers, a line for each. This is said of them.
pub record AnswersLines (numbered : Bool) (Are : List (List ℕ) → List Answer → Type 0) (lines : List (ℕ × List ℕ)) (written : List ℕ) : Type 0 where
  pub answers : List Answer
  pub each : length answers ≡ length lines
  pub bytes : written ≡ answers_text numbered lines answers
  pub answered : Are (without_numbers lines) answers

-- These bytes are the end of one answer's line, or none.
abbrev pub EndsAnswer : Bool → List ℕ → Type 0
EndsAnswer numbered missing = (kept : List ℕ) × (number : ℕ) × (answer : Answer) × (front_of numbered number ++ line_of answer ≡ kept ++ missing)

-- A fault came, and lines were answered before it. The register carried out some of which this is so; the end of one answer at most was
-- not written. Unless it was the write that failed, all that was written are whole answers, to lines of which that is so.
pub record WasCutShort (numbered : Bool) (account : Account) (Done Told : List (ℕ × List ℕ) → Type 0) (a b : Option (List ℕ)) (fault : ScriptFault) : Type 0 where
  pub lines : List (ℕ × List ℕ)
  pub done : Done lines
  pub written : List ℕ
  pub missing : List ℕ
  pub appended : Appends a b written
  pub one : EndsAnswer numbered missing
  pub answered : AnswersLines numbered account.all lines (written ++ missing)
  pub whole : (fault ≡ WriteFailed) ⊎ ((told : List (ℕ × List ℕ)) × Told told × AnswersLines numbered account.first told written)

-- The lines begin with these.
abbrev pub BeginWith : {A : Type 0} → List A → List A → Type 0
BeginWith {A} lines front = (left : List A) × (lines ≡ front ++ left)

-- The lines begin with these, and there is one more.
abbrev pub GoOnBehind : {A : Type 0} → List A → List A → Type 0
GoOnBehind {A} lines front = (line : A) × (left : List A) × (lines ≡ front ++ line ∷ left)

-- What was written of the lines' answers, by how that ended: all; or, where there was no memory for a line or a write failed, those before.
pub record WasWritten (numbered : Bool) (account : Account) (lines : List (ℕ × List ℕ)) (a b : Option (List ℕ)) (done : Result ⊤ ScriptFault) : Type 0 where
  pub all : OnOk done ((written : List ℕ) × Appends a b written × AnswersLines numbered account.all lines written)
  pub early : IfErr done (WasCutShort numbered account (BeginWith lines) (GoOnBehind lines) a b)
  pub faults : IfErr done (λ fault. (fault ≡ NoMemory) ⊎ (fault ≡ WriteFailed))

-- A register was asked what these lines ask, of which the first has this number, and the answers were written so to an output. The register was
-- clean before if it is now, and the output has the same writer still. A fault of writing came only where the last call on it failed.
pub record HasWritten {D W : Type 0} (desk : Desk.Ghosts D) (writer : SinkGhosts W) (numbered : Bool) (number : ℕ) (lines : List ℕ) (old new : D) (held now : Output W) (done : Result ⊤ ScriptFault) : Type 0 where
  pub written : WasWritten numbered (account_by desk old new) (numbered_lines number lines) (writer.contents held.writer.now) (writer.contents now.writer.now) done
  pub falls : desk.clean new → desk.clean old
  pub same_writer : now.writer.ghost_name ≡ held.writer.ghost_name
  pub stops : StopsSo writer now.writer.now done
