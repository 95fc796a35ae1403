-- The connections at a port: what a turn may make of each, and which one is given out.
use Rattle.std.specs.Prelude.{◌≡◌, ◌⊎◌, ℕ, List, Option, Some, None}
use Rattle.fr_links.specs.Connection.{IsBegun}
use Rattle.fr_links.specs.Connections.{Goes, IsGivenOut, IsKnown, OthersStay, Queues, TakesFirst, at}
use Rattle.fr_links.specs.declared.ends.Given.{Given}
use Rattle.fr_links.specs.declared.ends.Reply.{Reply}
use Rattle.fr_links.specs.declared.held.Held.{Held}
use Rattle.fr_links.specs.declared.judge.Judgement.{Judgement}
use Rattle.fr_links.specs.declared.table.Table.{Table}

module _ {S : Type 0} (remaining contents : S → Option (List ℕ)) (fresh : S → Type 0) where
  -- It came in: its stream is one on which nothing had been read or written, and then its bytes moved.
  abbrev pub CameIn : Option (Held S) → Type 0
  CameIn None = ⊥
  CameIn (Some held) = (stream : S) × fresh stream × IsBegun remaining contents stream held.link held.stage

  -- What stands under a key goes on between it and its own stream alone, or is gone; or another came in there.
  abbrev pub Reaches : Option (Held S) → Option (Held S) → Type 0
  Reaches old new = Goes remaining contents old new ⊎ CameIn new

module _ {S : Type 0} where
  -- what is known of each request is what such a judge told
  abbrev pub AllKnown : (List ℕ → Judgement → Type 0) → Table S → Type 0
  AllKnown tells table = (key : ℕ) → IsKnown tells (at table key)

module _ {S : Type 0} (remaining contents : S → Option (List ℕ)) (tells : List ℕ → Judgement → Type 0) where
  -- Each connection goes on by itself, and none is new. What waits for its turn keeps its place. And what is known of each request is what the judge
  -- told, if it was so before.
  pub record GoesOn (old new : Table S) : Type 0 where
    pub each : (key : ℕ) → Goes remaining contents (at old key) (at new key)
    pub known : AllKnown tells old → AllKnown tells new
    pub queue : Queues old new

module _ {S : Type 0} (remaining contents : S → Option (List ℕ)) (fresh : S → Type 0) (tells : List ℕ → Judgement → Type 0) where
  -- Each connection goes on by itself, or came in. And what is known of each request is what the judge told, if it was so before.
  pub record Reached (old new : Table S) : Type 0 where
    pub each : (key : ℕ) → Reaches remaining contents fresh (at old key) (at new key)
    pub known : AllKnown tells old → AllKnown tells new

  -- So it is, and what waits for its turn keeps its place.
  pub record Turns (old new : Table S) : Type 0 where
    pub reached : Reached old new
    pub queue : Queues old new

  -- After some turns the first that waited is given out, and these are its two ends. It is gone from then on, and each other stays as it was.
  pub record Gives (old new : Table S) (given : Given) (reply : Reply S) : Type 0 where
    pub mid : Table S
    pub reached : Reached old mid
    pub others : OthersStay mid new reply.key
    pub first : TakesFirst mid new reply.key
    pub once : at new reply.key ≡ None
    pub ends : IsGivenOut (at mid reply.key) given reply
