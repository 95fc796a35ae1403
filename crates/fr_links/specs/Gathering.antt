-- Gathering: what is read of a stream stands in order behind what had come, and none of it is lost.
use Rattle.std.specs.Prelude.{◌≡◌, ◌≢◌, ℕ, ◌-◌, ◌<◌, min, Bool, List, [], ◌++◌, Option, Some, None}
use Rattle.std.specs.Io.KnownBytes.{Consumes}
use Rattle.fr_links.specs.declared.heard.Heard.{Heard}
use Rattle.fr_links.specs.declared.heard.Heard.TheVariants.{Closed, Complete, Failed, More, TooOften}
use Rattle.fr_links.specs.declared.judge.Judgement.{Judgement}
use Rattle.fr_links.specs.declared.judge.Judgement.TheVariants.{Known, Open}
use Rattle.fr_links.specs.declared.stage.Ending.{Ending}
use Rattle.fr_links.specs.declared.stage.Ending.TheVariants as E
use Rattle.fr_links.specs.declared.stage.Stage.{Stage}
use Rattle.fr_links.specs.declared.stage.Stage.TheVariants.{Asking, Ready}

-- how many bytes of a request are still wanted, of which so many came: up to its length, or, where that is not known, to that of a head
abbrev pub room_of : Option ℕ → ℕ → ℕ
room_of (Some bytes) came = bytes - came
room_of None came = 8192 - came

-- the length of a request, where it is known, and else none
abbrev pub known_of : Option ℕ → ℕ
known_of (Some bytes) = bytes
known_of None = 0

-- Where gathering ended like this, so many bytes are still wanted: none where the request is complete, and else some. Where it was read as often as
-- may be, the last read may have completed it.
abbrev pub Leaves : Heard → ℕ → Type 0
Leaves More room = 0 < room
Leaves Complete room = room ≡ 0
Leaves Closed room = 0 < room
Leaves Failed room = 0 < room
Leaves TooOften room = Unit {0}

-- what stands behind the bytes of a request, where gathering ended like this, and none while more has to come
abbrev pub ending_of : Heard → Option Ending
ending_of More = None
ending_of Complete = Some E.Complete
ending_of Closed = Some E.Closed
ending_of Failed = Some E.Failed
ending_of TooOften = Some E.Interrupted

-- What is known of a request whose bytes are these so far, by a judge that may tell this: it told the length of the request by some of the first of
-- them; or it told by all of them that more has to come, unless none came.
abbrev pub IsTold : (List ℕ → Judgement → Type 0) → Option ℕ → List ℕ → Type 0
IsTold tells (Some need) came = (seen : List ℕ) × (more : List ℕ) × (came ≡ seen ++ more) × (bytes : ℕ) × (invites : Bool) × tells seen (Known bytes invites) × (need ≡ min bytes 73728)
IsTold tells None came = came ≢ [] → tells came Open

-- As a piece came in, it became known whether the client waits for the interim reply: by what the judge told, where it told the length, and else it
-- stays as it was.
abbrev pub Invites : (List ℕ → Judgement → Type 0) → Option ℕ → Bool → Option ℕ → Bool → List ℕ → Type 0
Invites tells (Some known) before need invites came = invites ≡ before
Invites tells None before None invites came = invites ≡ before
Invites tells None before (Some need) invites came = (bytes : ℕ) × tells came (Known bytes invites) × (need ≡ min bytes 73728)

-- At this stage so many bytes of the request are still wanted: some while it is awaited, none where it is to be answered as complete, and some
-- where its input ended before or failed.
abbrev pub Fits : Stage → ℕ → Type 0
Fits stage room = (stage ≡ Ready E.Complete → room ≡ 0) × (stage ≡ Asking → 0 < room) × (stage ≡ Ready E.Closed → 0 < room) × (stage ≡ Ready E.Failed → 0 < room)

-- Bytes were read of a stream and let go.
abbrev pub LetsGo : Option (List ℕ) → Option (List ℕ) → Type 0
LetsGo input left = (lost : List ℕ) × Consumes input left lost

-- These bytes were read of a stream, and stand behind what had come. Only where gathering failed may the last of them be lost.
pub record Gathers (input left : Option (List ℕ)) (came now : List ℕ) (heard : Heard) : Type 0 where
  pub kept : List ℕ
  pub lost : List ℕ
  pub consumed : Consumes input left (kept ++ lost)
  pub gathered : now ≡ came ++ kept
  pub none : heard ≢ Failed → lost ≡ []
