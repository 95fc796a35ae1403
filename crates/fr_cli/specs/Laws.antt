-- Laws: what answered lines ask is a run of the register. Lines of which none is answered `Unavailable` have the
-- answers of its steps. The word of each fault that ends a job or a connection is explained.
use Rattle.std.specs.Prelude.{◌≡◌, ℕ, List, map, IsFalse, true}
use Rattle.std.specs.List.{list_any}
use Rattle.fr_base.specs.Alone.{is_unavailable}
use Rattle.fr_base.specs.Book.{Book}
use Rattle.fr_base.specs.Cluster.{Cluster}
use Rattle.fr_base.specs.Run.{IsRun}
use Rattle.fr_base.specs.declared.answer.Answer.{Answer}
use Rattle.fr_guide.specs.Topics.{is_explained}
use Rattle.fr_http.specs.declared.fault.LinkFault.{LinkFault}
use Rattle.fr_cli.specs.Faults.{fault_word, link_word}
use Rattle.fr_cli.specs.declared.fault.Fault.{Fault}
use Rattle.fr_cli.specs.ScriptRun.{AreAnswered, answers_to, asks_in, book_after}

-- What lines that are answered so ask, each as the book then stands, is a run with these answers; so the laws of the register hold of it.
abbrev pub AnsweredLinesAreARun : Type 0
AnsweredLinesAreARun = (c : Cluster) (b last : Book) (lines : List (List ℕ)) (answers : List Answer) → AreAnswered c b lines answers last →
    IsRun c b (map (λ asked. asked.0) (asks_in c b lines answers)) (map (λ asked. asked.1) (asks_in c b lines answers)) last

-- Lines of which none is answered Unavailable have one list of answers: the register's, step by step.
abbrev pub AvailableAnswersAreSteps : Type 0
AvailableAnswersAreSteps = (c : Cluster) (b last : Book) (lines : List (List ℕ)) (answers : List Answer) → AreAnswered c b lines answers last →
    IsFalse (list_any is_unavailable answers) → (answers ≡ answers_to c b lines) × (last ≡ book_after c b lines)

-- Each word of a fault that ends a job is explained, and so is each of a connection's.
abbrev pub EachFaultIsExplained : Type 0
EachFaultIsExplained = ((fault : Fault) → is_explained (fault_word fault) ≡ true) × ((fault : LinkFault) → is_explained (link_word fault) ≡ true)
