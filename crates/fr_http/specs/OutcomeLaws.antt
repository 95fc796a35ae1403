-- Laws of outcomes: bytes that begin with a head have one outcome and one interim reply. Two connections that are served
-- from one book, with the same such bytes, have the same reply and lead to the same book, but for pictures, what is explained and
-- advice, and for where `Unavailable` comes.
use Rattle.std.specs.Prelude.{◌≡◌, ℕ, Bool, true, false, List, Option, Some, Result, Ok, Err}
use Rattle.httparse.specs.Grammar.{RequestHead}
use Rattle.fr_base.specs.Alone.{is_unavailable}
use Rattle.fr_base.specs.Book.{Book}
use Rattle.fr_base.specs.Cluster.{Cluster}
use Rattle.fr_base.specs.declared.actor.Actor.{Actor}
use Rattle.fr_http.specs.Exchanges.{Advised, Answered, Dealing, Drawn, Exchanged, IsExchange}
use Rattle.fr_http.specs.Head.{BeginsWith, HeadData, said}
use Rattle.fr_http.specs.Outcome.{IsOutcome, Wanted, plan_of}
use Rattle.fr_http.specs.declared.exchange.Exchange.{Exchange}
use Rattle.fr_http.specs.declared.fault.Unasked.{Unasked}
use Rattle.fr_http.specs.declared.fault.Rejection.{Rejection}
use Rattle.fr_http.specs.declared.routes.Route.{Route}
use Rattle.fr_http.specs.declared.routes.Route.TheVariants.{Explanation, Explanations}
use Rattle.fr_http.specs.declared.serve.Served.{Served}

-- Bytes that begin with a head have one outcome, whoever has which key, and one interim reply.
abbrev pub OutcomeIsOne : Type 0
OutcomeIsOne = (who : List ℕ → Option Actor) (bytes one other : List ℕ) (outcome another : Result Exchange Unasked)
    (head : RequestHead) (rest : List ℕ) → BeginsWith bytes head rest →
    IsOutcome who bytes one outcome → IsOutcome who bytes other another → (outcome ≡ another) × (one ≡ other)

-- whether a request was asked, and answered Unavailable
abbrev pub was_lacking : Option Dealing → Bool
was_lacking (Some (Answered ask method answer)) = is_unavailable answer
was_lacking _ = false

-- whether a picture was asked for, or advice: no definition fixes their words
abbrev pub is_worded : Option Dealing → Bool
is_worded (Some (Drawn reader variant since drawn)) = true
is_worded (Some (Advised reader subject text)) = true
is_worded _ = false

-- whether the route is that of what is explained, whose words no definition fixes either
abbrev pub is_explanation : Route → Bool
is_explanation Explanations = true
is_explanation Explanation = true
is_explanation _ = false

abbrev pub plans_explanation : Result Wanted Rejection → Bool
plans_explanation (Ok wanted) = is_explanation wanted.route
plans_explanation (Err rejection) = false

-- whether the head asks for what is explained
abbrev pub asks_explanation : HeadData → Bool
asks_explanation head = plans_explanation (plan_of head)

-- Two connections that are served from one book, with the same bytes, which begin with a head and ask for nothing in
-- words that no definition fixes: where
-- both are Unavailable or neither is, the same is written to them, and they lead to the same book.
abbrev pub ExchangeIsOne : Type 0
ExchangeIsOne = (c : Cluster) (b last end : Book) (x y : Exchanged) (head : RequestHead) (rest : List ℕ) (told other : Served) →
    IsExchange c b x last → IsExchange c b y end → x.read ≡ y.read → BeginsWith x.read head rest →
    x.done ≡ Ok told → y.done ≡ Ok other → is_worded x.asked ≡ false → asks_explanation (said head) ≡ false → was_lacking x.asked ≡ was_lacking y.asked →
    (x.written ≡ y.written) × (told.status ≡ other.status) × (last ≡ end)
