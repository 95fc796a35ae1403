-- On the way to an outcome: what is known of the bytes that were read, whether a head came, and
-- whether a whole body did.
use Rattle.std.specs.Global.{Vec}
use Rattle.std.specs.Prelude.{ℕ, ◌≡◌, ◌<◌, ◌≤◌, ◌-◌, false, List, ◌++◌, length, take, Option, Some, None, Result, IfOk, MatchResult, OnErr}
use Rattle.std.specs.Io.KnownBytes.{Consumes, IsAtEnd, Keeps}
use Rattle.httparse.specs.Grammar.{RequestHead}
use Rattle.fr_http.specs.Head.{BeginsWith, HasNoHead, HeadData, max_head, said}
use Rattle.fr_http.specs.Outcome.{HeadFails, asked_before, front}
use Rattle.fr_http.specs.declared.fault.LinkFault.{LinkFault}
use Rattle.fr_http.specs.declared.fault.LinkFault.TheVariants.{Truncated, WriteFailed}
use Rattle.fr_http.specs.declared.fault.Unasked.{Unasked}
use Rattle.fr_http.specs.declared.fault.Unasked.TheVariants.{Engine, Explained, Page, Refused, Fault}

-- One read gave so many bytes of the piece, which are gone from the input, and none only at the input's end; or it failed, and the
-- input stays.
pub record ReadsPiece {E : Type 0} (piece : List ℕ) (input left : Option (List ℕ)) (given : Result ℕ E) : Type 0 where
  pub bound : IfOk given (λ n. n ≤ length piece)
  pub bytes : IfOk given (λ n. Consumes input left (take n piece))
  pub end : IfOk given (λ n. n ≡ 0 → 0 < length piece → IsAtEnd left)
  pub kept : OnErr given (Keeps input left)

-- The bytes begin with this head, and this follows it.
abbrev pub Receives : List ℕ → HeadData × List ℕ → Type 0
Receives bytes received = (h : RequestHead) × BeginsWith bytes h received.1 × (received.0 ≡ said h)

-- The bytes have this outcome without a head.
pub record Fails (bytes : List ℕ) (unasked : Unasked) : Type 0 where
  pub none : HasNoHead bytes
  pub fails : HeadFails bytes unasked

-- No head came: that is the outcome of the bytes, and where they were cut short the input ended; or
-- a fault came that says nothing of the bytes.
abbrev pub FailsToReceive : List ℕ → Option (List ℕ) → Unasked → Type 0
FailsToReceive bytes left (Engine rejection) = Fails bytes (Engine rejection)
FailsToReceive bytes left (Page part held) = ⊥
FailsToReceive bytes left (Explained _) = ⊥
FailsToReceive bytes left (Refused _) = ⊥
FailsToReceive bytes left (Fault Truncated) = Fails bytes (Fault Truncated) × IsAtEnd left
FailsToReceive bytes left (Fault (WriteFailed _)) = ⊥
FailsToReceive bytes left (Fault fault) = asked_before fault ≡ false

-- What was read of the input: where a head came, no more than a head may have.
abbrev pub HasReceived : Option (List ℕ) → Option (List ℕ) → Result (HeadData × List ℕ) Unasked → Type 0
HasReceived input left result = (bytes : List ℕ) × Consumes input left bytes × MatchResult result (Receives bytes) (FailsToReceive bytes left)
    × (length bytes ≤ max_head)

-- No whole body came: the bytes are cut short, and the input ended; or a fault came that says
-- nothing of the bytes.
abbrev pub LacksBody : ℕ → List ℕ → Option (List ℕ) → LinkFault → Type 0
LacksBody n bytes left Truncated = (front n bytes ≡ None) × IsAtEnd left
LacksBody n bytes left (WriteFailed _) = ⊥
LacksBody n bytes left fault = asked_before fault ≡ false

-- What was read of the input behind these bytes: no more than the body still wants.
abbrev pub HasBody : ℕ → List ℕ → Option (List ℕ) → Option (List ℕ) → Result (Vec ℕ) LinkFault → Type 0
HasBody n begun input left result = (bytes : List ℕ) × Consumes input left bytes
    × MatchResult result (λ body. front n (begun ++ bytes) ≡ Some body.items) (LacksBody n (begun ++ bytes) left)
    × (length bytes ≤ n - length begun)
