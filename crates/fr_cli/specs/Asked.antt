-- Asked line: who sends a request's line, as the book then stands, which request its text is, and so who asks what,
-- with `BadText` before `UnknownKey`.
use Rattle.std.specs.Prelude.{ℕ, List, Option, Some, None, Result, Ok, Err, option_and_then}
use Rattle.fr_base.specs.Actors.{actor_of}
use Rattle.fr_base.specs.Book.{Book}
use Rattle.fr_base.specs.Cluster.{Cluster}
use Rattle.fr_base.specs.declared.actor.Actor.{Actor}
use Rattle.fr_base.specs.declared.refusal.Refusal.{Refusal}
use Rattle.fr_base.specs.declared.refusal.Refusal.TheVariants.{BadText, UnknownKey}
use Rattle.fr_base.specs.declared.request.Ask.{Ask}
use Rattle.fr_base.specs.declared.request.Request.{Request}
use Rattle.fr_text.specs.RequestText.{request_of}
use Rattle.fr_text.specs.Script.{key_and_text}

-- whoever has the key asks the request; a key of nobody's is refused
abbrev pub asked_by : Option Actor → Request → Result Ask Refusal
asked_by None request = Err UnknownKey
asked_by (Some actor) request = Ok (record { actor = actor; request = request })

-- what a text and its sender ask: a text that is no request is refused before its key is looked up
abbrev pub asked : Option Request → Option Actor → Result Ask Refusal
asked None sender = Err BadText
asked (Some request) sender = asked_by sender request

-- the request that the line's text is, if it is one
abbrev pub request_in : List ℕ → Option Request
request_in line = option_and_then (λ parts. request_of parts.1) (key_and_text line)

-- who sends the line: whoever has its key
abbrev pub sender_of : Cluster → Book → List ℕ → Option Actor
sender_of c b line = option_and_then (λ parts. actor_of c b parts.0) (key_and_text line)

-- who asks what by the line
unfoldable pub ask_in : Cluster → Book → List ℕ → Result Ask Refusal
ask_in c b line = asked (request_in line) (sender_of c b line)
