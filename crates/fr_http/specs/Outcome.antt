-- Outcome: what the bytes of a connection demand, or why they demand nothing, step by step. Whether
-- `100 Continue` is due. What may be answered where there is no head.
use Rattle.std.specs.Prelude.{ℕ, ◌≡◌, ◌⊎◌, ◌≤◌, ◌<◌, Bool, true, false, not, ◌&&◌, ◌==◌, nat_lt, nat_le, List, [], ◌∷◌, length, take, codes, Option, Some, None, Result, Ok, Err, if◌then◌else◌}
use Rattle.std.specs.Char.{is_ascii_digit}
use Rattle.std.specs.List.{list_all, list_any}
use Rattle.std.specs.Str.Parse.{digits_value}
use Rattle.httparse.specs.Grammar.{MayBecomeRequest, NeverHasRequest, RequestHead}
use Rattle.httparse.specs.Spans.{RequestExceeds}
use Rattle.fr_base.specs.Refusing.{◌>>=◌, ◌>>◌, ◌or◌, refuse◌when◌}
use Rattle.fr_base.specs.declared.actor.Actor.{Actor}
use Rattle.fr_base.specs.declared.refusal.Refusal.TheVariants.{UnknownKey}
use Rattle.fr_http.specs.Head.{BeginsWith, HasNoHead, HeadData, key_of, max_fields, max_head, said, same_but_case, values}
use Rattle.fr_http.specs.Routes.{allowed, chosen, method_of, operation_by, path_of, route_of}
use Rattle.fr_http.specs.declared.exchange.Exchange.{Exchange}
use Rattle.fr_http.specs.declared.exchange.Exchange.TheVariants as exchange
use Rattle.fr_http.specs.declared.exchange.Operation.{Operation}
use Rattle.fr_http.specs.declared.exchange.Operation.TheVariants as operation
use Rattle.fr_http.specs.declared.fault.LinkFault.{LinkFault}
use Rattle.fr_http.specs.declared.fault.LinkFault.TheVariants.{Truncated, ReadFailed, TooManyReads, WriteFailed, NoMemory}
use Rattle.fr_http.specs.declared.fault.Rejection.{Rejection}
use Rattle.fr_http.specs.declared.fault.Rejection.TheVariants.{BadRequest, NotFound, MethodNotAllowed, LengthRequired, PayloadTooLarge, HeadTooLarge, NotImplemented}
use Rattle.fr_http.specs.declared.fault.Unasked.{Unasked}
use Rattle.fr_http.specs.declared.fault.Unasked.TheVariants.{Engine, Refused, Fault}
use Rattle.fr_http.specs.declared.method.Method.{Method}
use Rattle.fr_http.specs.declared.method.Method.TheVariants.{Get, Post, Put}
use Rattle.fr_http.specs.declared.routes.Route.{Route}

-- how many bytes a body has at most
abbrev pub max_body : ℕ
max_body = 65536

-- whether the text is one or more ASCII digits
abbrev pub is_decimal : List ℕ → Bool
is_decimal text = nat_lt 0 (length text) && list_all is_ascii_digit text

-- the length of a body, by the values of its `content-length`
unfoldable pub length_in : List (List ℕ) → Result ℕ Rejection
length_in [] = Err LengthRequired
length_in (value ∷ []) = do
  refuse BadRequest when not (is_decimal value)
  refuse PayloadTooLarge when nat_lt max_body (digits_value 10 value)
  Ok (digits_value 10 value)
length_in (_ ∷ _ ∷ _) = Err BadRequest

-- the length of the body that is read; the body of a GET is not read
abbrev pub body_length : Method → HeadData → Result ℕ Rejection
body_length Get head = Ok 0
body_length Post head = length_in (values (codes "content-length") head.fields)
body_length Put head = length_in (values (codes "content-length") head.fields)

-- what a head asks for: the route of its path, and the length of the body
pub record Wanted : Type 0 where
  pub route : Route
  pub length : ℕ

-- what the head asks for, or the engine's own answer
unfoldable pub plan_of : HeadData → Result Wanted Rejection
plan_of head = do
  refuse NotImplemented when nat_lt 0 (length (values (codes "transfer-encoding") head.fields))
  resource ← route_of (path_of head.target) or NotFound
  route ← chosen head.method resource or MethodNotAllowed (allowed resource)
  n ← body_length (method_of route) head
  Ok (record { route = route; length = n })

-- whether the field asks for `100 Continue`
abbrev pub is_continue : List ℕ → Bool
is_continue value = same_but_case value (codes "100-continue")

-- whether `100 Continue` is due: a body is to come, the version is 1.1, and a field `expect` asks for it
unfoldable pub due : ℕ → HeadData → Bool
due n head = nat_lt 0 n && ((head.minor == 1) && list_any is_continue (values (codes "expect") head.fields))

abbrev pub continue_reply : List ℕ
continue_reply = codes "HTTP/1.1 100 Continue\r\n\r\n"

abbrev pub continue_if : Bool → List ℕ
continue_if due = if due then continue_reply else []

-- the interim reply that is due, by what the head asks for
abbrev pub interim_to : Result Wanted Rejection → HeadData → List ℕ
interim_to (Ok wanted) head = continue_if (due wanted.length head)
interim_to (Err _) head = []

unfoldable pub interim : HeadData → List ℕ
interim head = interim_to (plan_of head) head

-- the first n bytes, if so many are there
abbrev pub front : ℕ → List ℕ → Option (List ℕ)
front n bytes = if nat_le n (length bytes) then Some (take n bytes) else None

-- the engine's own answer, as a cause why nothing is asked
abbrev pub by_engine : {A : Type 0} → Result A Rejection → Result A Unasked
by_engine (Ok x) = Ok x
by_engine (Err rejection) = Err (Engine rejection)

-- whether the register was asked before this fault
abbrev pub asked_before : LinkFault → Bool
asked_before (WriteFailed asked) = asked
asked_before (NoMemory asked) = asked
asked_before Truncated = false
asked_before ReadFailed = false
asked_before TooManyReads = false

-- who has the key, if there is one
abbrev pub holder : (List ℕ → Option Actor) → Option (List ℕ) → Option Actor
holder who None = None
holder who (Some key) = who key

-- the exchange of this actor by this method: a request's answer; a picture, as the actor sees it; or advice on a text
abbrev pub asked_by : Actor → Method → Operation → Exchange
asked_by actor method (operation.Request request) = exchange.Request (record { actor = actor; request = request }) method
asked_by actor method (operation.Picture variant since) = exchange.Picture actor variant since
asked_by actor method (operation.Advice subject text) = exchange.Advice actor subject text

-- whether the register is asked for more than whose a key is
abbrev pub is_ask : Exchange → Bool
is_ask (exchange.Request ask method) = true
is_ask (exchange.Picture reader variant since) = true
is_ask (exchange.Advice reader subject text) = false

-- What is demanded, or why nothing is, by the head and by the bytes behind it. If a body is cut
-- short, the input ended there.
unfoldable pub outcome_of : (List ℕ → Option Actor) → HeadData → List ℕ → Result Exchange Unasked
outcome_of who head rest = do
  plan ← by_engine (plan_of head)
  body ← front plan.length rest or Fault Truncated
  operation ← operation_by plan.route (path_of head.target) head.fields body
  actor ← holder who (key_of head) or Refused UnknownKey
  Ok (asked_by actor (method_of plan.route) operation)

-- Why bytes that do not begin with a head demand nothing. No head can come of them. Or they are too
-- many, or some of their lines and an empty line would be a head with too many fields. Or they
-- are not too many, and bytes could follow that make them a head, or they end in a target.
abbrev pub HeadFails : List ℕ → Unasked → Type 0
HeadFails bytes (Engine BadRequest) = NeverHasRequest bytes
HeadFails bytes (Engine HeadTooLarge) = (max_head ≤ length bytes) ⊎ RequestExceeds max_fields bytes
HeadFails bytes (Fault Truncated) = (length bytes < max_head) × MayBecomeRequest bytes
HeadFails bytes _ = ⊥

-- The bytes begin with a head, and this is their outcome and their interim reply.
pub record HeadOutcome (who : List ℕ → Option Actor) (bytes written : List ℕ) (outcome : Result Exchange Unasked) : Type 0 where
  pub head : RequestHead
  pub rest : List ℕ
  pub begins : BeginsWith bytes head rest
  pub asks : outcome ≡ outcome_of who (said head) rest
  pub interim : written ≡ interim (said head)

-- The bytes do not begin with a head. This is their outcome, and there is no interim reply.
pub record NoHeadOutcome (bytes written : List ℕ) (outcome : Result Exchange Unasked) : Type 0 where
  pub none : HasNoHead bytes
  pub unasked : Unasked
  pub fails : HeadFails bytes unasked
  pub asks : outcome ≡ Err unasked
  pub interim : written ≡ []

-- The bytes of a connection have this outcome and this interim reply.
abbrev pub IsOutcome : (List ℕ → Option Actor) → List ℕ → List ℕ → Result Exchange Unasked → Type 0
IsOutcome who bytes written outcome = HeadOutcome who bytes written outcome ⊎ NoHeadOutcome bytes written outcome
