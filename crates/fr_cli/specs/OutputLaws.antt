-- Laws of outputs: the same lines from one book come to one end, and a script has one output, but for where `Unavailable`
-- comes. Requests that have numbers are the requests, and the lines of a script are those of its parts.
use Rattle.std.specs.Prelude.{◌≡◌, ℕ, List, ◌∷◌, ◌++◌, Some, codes, map}
use Rattle.std.specs.Str.Lines.{lines as lines_in}
use Rattle.fr_base.specs.Alone.{is_unavailable}
use Rattle.fr_base.specs.Book.{Book}
use Rattle.fr_base.specs.Cluster.{Cluster}
use Rattle.fr_base.specs.declared.answer.Answer.{Answer}
use Rattle.fr_text.specs.Script.{parts_of, request_lines}
use Rattle.fr_cli.specs.Numbered.{numbered_lines, without_numbers}
use Rattle.fr_cli.specs.Output.{IsOutput}
use Rattle.fr_cli.specs.ScriptRun.{AreAnswered}

-- The same lines from one book, Unavailable at the same places or nowhere, have the same answers and lead to the same book.
abbrev pub AnsweredLinesAreOne : Type 0
AnsweredLinesAreOne = (c : Cluster) (b last end : Book) (lines : List (List ℕ)) (answers replies : List Answer) →
    AreAnswered c b lines answers last → AreAnswered c b lines replies end →
    map is_unavailable answers ≡ map is_unavailable replies → (answers ≡ replies) × (last ≡ end)

-- the answers in an output
abbrev pub answers_in : {script written : List ℕ} → IsOutput script written → List Answer
answers_in output = output.answered.answered.answers

-- Two outputs of a script, Unavailable at the same places or nowhere, are the same bytes.
abbrev pub OutputIsOne : Type 0
OutputIsOne = (script one other : List ℕ) (here : IsOutput script one) (there : IsOutput script other) →
    map is_unavailable (answers_in here) ≡ map is_unavailable (answers_in there) → one ≡ other

-- Without their numbers the requests of a text that have them are its requests.
abbrev pub NumberedAreRequests : Type 0
NumberedAreRequests = (number : ℕ) (text : List ℕ) → without_numbers (numbered_lines number text) ≡ request_lines text

-- The lines of a script are those of its cluster file, the separator, and those behind it.
abbrev pub ScriptLinesAreParts : Type 0
ScriptLinesAreParts = (script cluster requests : List ℕ) → parts_of script ≡ Some (cluster, requests) →
    lines_in script ≡ lines_in cluster ++ codes "---" ∷ lines_in requests
