-- The table of connections: what a call may make of each.
use Rattle.std.specs.Prelude.{◌≡◌, ◌≢◌, ℕ, List, ◌∷◌, ◌++◌, Option, Some, None, vec_len}
use Rattle.std.specs.List.{AllByRecursion}
use Rattle.slab.specs.Slab.{get}
use Rattle.fr_links.specs.Connection.{Follows, IsMoved, IsReady, IsUnanswered}
use Rattle.fr_links.specs.Ends.{given_bytes}
use Rattle.fr_links.specs.Gathering.{Fits, IsTold, room_of}
use Rattle.fr_links.specs.declared.ends.Given.{Given}
use Rattle.fr_links.specs.declared.ends.Reply.{Reply}
use Rattle.fr_links.specs.declared.judge.Judgement.{Judgement}
use Rattle.fr_links.specs.declared.stage.Stage.TheVariants.{Asking, Ready}
use Rattle.fr_links.specs.declared.held.Held.{Held}
use Rattle.fr_links.specs.declared.table.Table.{Table}

module _ {S : Type 0} where
  -- the connection under this key
  abbrev pub at : Table S → ℕ → Option (Held S)
  at table key = get table.links key

  -- It is gone, or its link is the same and its stage goes on.
  abbrev pub Stays : Option (Held S) → Option (Held S) → Type 0
  Stays None None = Unit {0}
  Stays (Some old) None = Unit {0}
  Stays None (Some new) = ⊥
  Stays (Some old) (Some new) = (new.link ≡ old.link) × Follows old.stage new.stage

  -- Each connection is gone, or its link is the same; and none is new.
  abbrev pub AllStay : Table S → Table S → Type 0
  AllStay old new = (key : ℕ) → Stays (at old key) (at new key)

  -- Each connection but the one under this key is as it was.
  abbrev pub OthersStay : Table S → Table S → ℕ → Type 0
  OthersStay old new key = (other : ℕ) → other ≢ key → at new other ≡ at old other

  -- What waits for its turn keeps its place, and what comes to wait stands behind it.
  pub record Queues (old new : Table S) : Type 0 where
    pub more : List ℕ
    pub behind : new.ready.items ≡ old.ready.items ++ more

  -- Unless the connection was answered, what is known of its request is what such a judge told of the bytes that came.
  abbrev pub IsKnown : (List ℕ → Judgement → Type 0) → Option (Held S) → Type 0
  IsKnown tells None = Unit {0}
  IsKnown tells (Some held) = IsUnanswered held.stage → IsTold tells held.link.inbox.need held.link.inbox.came.items

  -- it is not to be answered
  abbrev pub IsUnready : Option (Held S) → Type 0
  IsUnready None = Unit {0}
  IsUnready (Some held) = ¬ IsReady held.stage

  -- The first that waited for its turn, but for those that are not to be answered, waits no longer.
  pub record TakesFirst (old new : Table S) (key : ℕ) : Type 0 where
    pub passed : List ℕ
    pub unready : AllByRecursion (λ k. IsUnready (at old k)) passed
    pub front : old.ready.items ≡ passed ++ (key ∷ new.ready.items)

  -- The connection was to be answered, and these are its two ends: one gives the bytes that came in on it, and behind them its input's end or a
  -- failed read; the other has its stream, and what is still to go out on it. Where it is given out as complete, no byte of its request is wanted.
  abbrev pub IsGivenOut : Option (Held S) → Given → Reply S → Type 0
  IsGivenOut None given reply = ⊥
  IsGivenOut (Some held) given reply =
      (held.stage ≡ Ready given.ending) × (given_bytes given ≡ Some held.link.inbox.came.items) × (reply.link.stream ≡ held.link.stream)
      × (reply.link.outbox ≡ held.link.outbox) × Fits (Ready given.ending) (room_of held.link.inbox.need (vec_len held.link.inbox.came))

module _ {S : Type 0} (remaining contents : S → Option (List ℕ)) where
  -- It is gone, or its bytes moved: between it and its own stream alone. Nothing more comes of a request that is awaited no longer.
  abbrev pub Goes : Option (Held S) → Option (Held S) → Type 0
  Goes None None = Unit {0}
  Goes (Some old) None = Unit {0}
  Goes None (Some new) = ⊥
  Goes (Some old) (Some new) =
      IsMoved remaining contents old.link new.link new.stage × Follows old.stage new.stage × (old.stage ≢ Asking → new.link.inbox ≡ old.link.inbox)
