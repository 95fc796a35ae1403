-- On the way to an outcome: what is known of a request and of its sender.
use Rattle.std.specs.Prelude.{ℕ, ◌≡◌, ◌⊎◌, false, List, Option, None, Some, Result, Ok, Err, MatchResult}
use Rattle.fr_base.specs.Actors.{actor_of}
use Rattle.fr_base.specs.Book.{Book}
use Rattle.fr_base.specs.Cluster.{Cluster}
use Rattle.fr_base.specs.Desks.{Standing}
use Rattle.fr_base.specs.Sound.{IsSound}
use Rattle.fr_base.specs.declared.actor.Actor.{Actor}
use Rattle.fr_base.specs.declared.refusal.Refusal.{Refusal}
use Rattle.fr_base.specs.declared.refusal.Refusal.TheVariants.{BadText, Unavailable}
use Rattle.fr_base.specs.declared.request.Request.{Request}
use Rattle.fr_text.specs.RequestText.{request_of}
use Rattle.fr_http.specs.Head.{HeadData, key_of}
use Rattle.fr_http.specs.Outcome.{holder}
use Rattle.fr_http.specs.Routes.{number_in, operation_by, part}
use Rattle.fr_http.specs.declared.exchange.Operation.{Operation}
use Rattle.fr_http.specs.declared.fault.LinkFault.TheVariants.{NoMemory}
use Rattle.fr_http.specs.declared.fault.Unasked.{Unasked}
use Rattle.fr_http.specs.declared.fault.Unasked.TheVariants.{Fault, Refused}
use Rattle.fr_http.specs.declared.path_name.PathName.{PathName}
use Rattle.fr_http.specs.declared.routes.Route.{Route}

-- The request is the one that the body's text is; or the text is not a request; or memory was
-- wanting.
abbrev pub MakesCommand : List ℕ → Result Request Unasked → Type 0
MakesCommand body (Ok request) = request_of body ≡ Some request
MakesCommand body (Err unasked) = (unasked ≡ Fault (NoMemory false)) ⊎ ((unasked ≡ Refused BadText) × (request_of body ≡ None))

-- The text is the part of the path that its pattern calls so; or memory was wanting.
abbrev pub NamesPart : List ℕ → PathName → Result (List ℕ) Unasked → Type 0
NamesPart path name result = MatchResult result (λ text. text ≡ part name path) (λ unasked. unasked ≡ Fault (NoMemory false))

-- The number is that part of the path; or that part is not a number.
abbrev pub CountsPart : List ℕ → PathName → Result ℕ Unasked → Type 0
CountsPart path name result = MatchResult result
    (λ number. number_in name path ≡ Some number)
    (λ unasked. (unasked ≡ Refused BadText) × (number_in name path ≡ None))

-- The operation is the route's, or that is why the route asks nothing; or memory was wanting.
abbrev pub MakesOperation : Route → List ℕ → List (List ℕ × List ℕ) → List ℕ → Result Operation Unasked → Type 0
MakesOperation route path fields body (Ok operation) = operation_by route path fields body ≡ Ok operation
MakesOperation route path fields body (Err unasked) = (unasked ≡ Fault (NoMemory false)) ⊎ (operation_by route path fields body ≡ Err unasked)

-- In a sound book this actor has the head's key, or nobody has it.
abbrev pub FindsActor : Standing → HeadData → Option Actor → Type 0
FindsActor stands head found = (c : Cluster) (b : Book) → stands c b → IsSound c b → found ≡ holder (actor_of c b) (key_of head)

-- why nothing is asked where a request is refused; want of memory is a fault
abbrev pub unasked_by : Refusal → Unasked
unasked_by Unavailable = Fault (NoMemory false)
unasked_by refusal = Refused refusal
