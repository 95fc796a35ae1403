-- Laws of runs: from one book the same requests come to one end, but for where `Unavailable` comes. Without it a run is
-- one step after another. Two runs that have it at the same places have the same answers, and end with the same book.
use Rattle.std.specs.Prelude.{◌≡◌, IsFalse, List, map}
use Rattle.std.specs.List.{list_any}
use Rattle.fr_base.specs.Alone.{answers_to, book_after, is_unavailable}
use Rattle.fr_base.specs.Book.{Book}
use Rattle.fr_base.specs.Cluster.{Cluster}
use Rattle.fr_base.specs.Run.{IsRun}
use Rattle.fr_base.specs.declared.answer.Answer.{Answer}
use Rattle.fr_base.specs.declared.request.Ask.{Ask}

-- A run none of whose answers is Unavailable has the answers of the register's steps, and ends with the book after them.
abbrev pub AvailableRunIsSteps : Type 0
AvailableRunIsSteps = (c : Cluster) (b last : Book) (asks : List Ask) (answers : List Answer) →
    IsRun c b asks answers last → IsFalse (list_any is_unavailable answers) →
    (answers ≡ answers_to c b asks) × (last ≡ book_after c b asks)

-- Two runs of the same requests from the same book, which are Unavailable at the same places or nowhere, have the same
-- answers, and end with the same book.
abbrev pub RunsAreOne : Type 0
RunsAreOne = (c : Cluster) (b last end : Book) (asks : List Ask) (answers replies : List Answer) →
    IsRun c b asks answers last → IsRun c b asks replies end →
    map is_unavailable answers ≡ map is_unavailable replies → (answers ≡ replies) × (last ≡ end)
