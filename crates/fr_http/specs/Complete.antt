-- Complete: when the bytes that came of a connection are a whole request. So many of them, with any
-- that follow, have the outcome of these, and fewer have none but that they are cut short. Where it is
-- not known yet how many it takes, the bytes that came are no head.
use Rattle.std.specs.Prelude.{ℕ, ◌≡◌, ◌≢◌, ◌≤◌, ◌<◌, ◌+◌, ◌⊎◌, Bool, false, List, [], ◌++◌, length, take, Option, Result, Ok, Err}
use Rattle.httparse.specs.Grammar.{EndsInTarget, NeverHasRequest}
use Rattle.httparse.specs.Spans.{RequestExceeds}
use Rattle.fr_base.specs.declared.actor.Actor.{Actor}
use Rattle.fr_http.specs.Head.{HasNoHead, HeadData, max_fields}
use Rattle.fr_http.specs.Outcome.{IsOutcome, Wanted, continue_if, due, plan_of}
use Rattle.fr_http.specs.declared.exchange.Exchange.{Exchange}
use Rattle.fr_http.specs.declared.fault.LinkFault.TheVariants.{Truncated}
use Rattle.fr_http.specs.declared.fault.Rejection.{Rejection}
use Rattle.fr_http.specs.declared.fault.Rejection.TheVariants.{BadRequest, HeadTooLarge}
use Rattle.fr_http.specs.declared.fault.Unasked.{Unasked}
use Rattle.fr_http.specs.declared.fault.Unasked.TheVariants.{Engine, Fault}
use Rattle.fr_http.specs.declared.need.Need.{Need}
use Rattle.fr_http.specs.declared.need.Need.TheVariants.{Open, Known}

-- The bytes have an outcome that their first n have too, with the same interim reply, and it is not
-- that they are cut short.
abbrev pub IsEnough : (List ℕ → Option Actor) → ℕ → Bool → List ℕ → Type 0
IsEnough who n invites bytes = (outcome : Result Exchange Unasked) × IsOutcome who (take n bytes) (continue_if invites) outcome
    × IsOutcome who bytes (continue_if invites) outcome × (outcome ≢ Err (Fault Truncated))

-- The bytes have no outcome but that they are cut short, with this interim reply.
abbrev pub IsCut : (List ℕ → Option Actor) → Bool → List ℕ → Type 0
IsCut who invites bytes = (written : List ℕ) (outcome : Result Exchange Unasked) → IsOutcome who bytes written outcome
    → (outcome ≡ Err (Fault Truncated)) × (written ≡ continue_if invites)

-- A request that begins with the bytes is complete with n of them, and not before.
pub record IsKnown (bytes : List ℕ) (n : ℕ) (invites : Bool) : Type 0 where
  pub enough : (who : List ℕ → Option Actor) (more : List ℕ) → n ≤ length (bytes ++ more) → IsEnough who n invites (bytes ++ more)
  pub short : (who : List ℕ → Option Actor) (more : List ℕ) → length (bytes ++ more) < n → IsCut who invites (bytes ++ more)

-- This outcome of bytes that are no head yet says that they are cut short. Or the bytes end in a target, and no head can come of
-- them, since it is no text: then it may be said that they are bad. Or lines of theirs would be a head with too many fields: then it
-- may be said that these are too many.
abbrev pub IsCutOutcome : List ℕ → Result Exchange Unasked → Type 0
IsCutOutcome bytes outcome = (outcome ≡ Err (Fault Truncated))
    ⊎ ((outcome ≡ Err (Engine BadRequest)) × EndsInTarget bytes × NeverHasRequest bytes)
    ⊎ ((outcome ≡ Err (Engine HeadTooLarge)) × RequestExceeds max_fields bytes)

-- The bytes do not begin with a head, and it is their outcome that they are cut short. They have no other, but for the two that such
-- bytes may have beside it. There is no interim reply.
pub record IsOpen (bytes : List ℕ) : Type 0 where
  pub none : HasNoHead bytes
  pub cut : (who : List ℕ → Option Actor) → IsOutcome who bytes [] (Err (Fault Truncated))
  pub only : (who : List ℕ → Option Actor) (written : List ℕ) (outcome : Result Exchange Unasked) → IsOutcome who bytes written outcome
      → IsCutOutcome bytes outcome × (written ≡ [])

-- what a request that begins with the bytes needs
abbrev pub Needs : List ℕ → Need → Type 0
Needs bytes Open = IsOpen bytes
Needs bytes (Known n invites) = IsKnown bytes n invites

-- ---- on the way

-- what the request needs that has a head of so many bytes
abbrev pub needed : ℕ → HeadData → Result Wanted Rejection → Need
needed n head (Ok wanted) = Known (n + wanted.length) (due wanted.length head)
needed n head (Err rejection) = Known n false

abbrev pub NeedsBehind : ℕ → HeadData → Need → Type 0
NeedsBehind n head need = need ≡ needed n head (plan_of head)
