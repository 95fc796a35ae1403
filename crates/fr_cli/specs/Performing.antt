-- Printed: a job that prints an answer may end with its text, as one that is done or of rows that would be refused, with the
-- line of a refusal, or with a fault. The line of a server that listens.
use Rattle.std.specs.Prelude.{◌≡◌, ◌++◌, ℕ, List, codes, decimal, Result, Ok, Err, ⊤}
use Rattle.std.specs.Global.{Vec}
use Rattle.fr_base.specs.declared.answer.Answer.{Answer}
use Rattle.fr_cli.specs.Outcomes.{line_of, outcome_of, printed_of, said_of}
use Rattle.fr_cli.specs.declared.failure.Failure.{Failure}
use Rattle.fr_cli.specs.declared.failure.Failure.TheVariants as failure
use Rattle.fr_cli.specs.declared.fault.Fault.{Fault}
use Rattle.fr_cli.specs.declared.fault.Fault.TheVariants.{Script}
use Rattle.fr_cli.specs.declared.streams.outcome.Outcome.TheVariants as outcome
use Rattle.fr_cli.specs.declared.script_fault.ScriptFault.{ScriptFault}

-- how the run of a script ends, as a job
abbrev pub of_script : Result ⊤ ScriptFault → Result ⊤ Fault
of_script (Ok done) = Ok done
of_script (Err fault) = Err (Script fault)

-- The job gives what is printed of such an answer, by its outcome; or a fault that may end it.
abbrev pub Says : (Fault → Type 0) → (Answer → Type 0) → Result (Vec ℕ) Failure → Type 0
Says May Is (Ok text) = (answer : Answer) × Is answer × (outcome_of answer ≡ outcome.Done) × (text.items ≡ printed_of answer)
Says May Is (Err (failure.RefusedRows text)) = (answer : Answer) × Is answer × (outcome_of answer ≡ outcome.RefusedRows) × (text.items ≡ printed_of answer)
Says May Is (Err (failure.UnplacedWishes file lines)) = (answer : Answer) × Is answer × (outcome_of answer ≡ outcome.UnplacedWishes)
    × ((file.items ≡ printed_of answer) × (lines.items ≡ said_of answer))
Says May Is (Err (failure.Refused line)) = (answer : Answer) × Is answer × (outcome_of answer ≡ outcome.Refused) × (line.items ≡ line_of answer)
Says May Is (Err (failure.Fault fault)) = May fault

-- the line of a server that listens
abbrev pub listening : ℕ → List ℕ
listening port = codes "listening on 127.0.0.1:" ++ decimal port ++ codes "\n"
