-- One connection: what a call may make of its bytes, and where it stands.
use Rattle.std.specs.Prelude.{◌≡◌, ◌≢◌, ℕ, List, [], ◌++◌, Option, drop}
use Rattle.std.specs.Io.KnownBytes.{Consumes}
use Rattle.fr_links.specs.Sending.{Moves, early}
use Rattle.fr_links.specs.declared.link.Link.{Link}
use Rattle.fr_links.specs.declared.outbox.Outbox.{Outbox}
use Rattle.fr_links.specs.declared.stage.Ending.TheVariants.{Failed}
use Rattle.fr_links.specs.declared.stage.Stage.{Stage}
use Rattle.fr_links.specs.declared.stage.Stage.TheVariants.{Asking, Ready, Replying, Resting}

-- what was written for it and did not go out yet
abbrev pub due_of : Outbox → List ℕ
due_of box = drop box.sent box.kept.items

-- what of the interim reply went out and was not written for it yet
abbrev pub early_of : Outbox → List ℕ
early_of box = early box.ahead box.passed

-- These bytes were written for it: what goes out on its stream, or is due, is what had been due and then these.
abbrev pub Writes : {S : Type 0} (contents : S → Option (List ℕ)) → Link S → Link S → List ℕ → Type 0
Writes contents old new written = Moves (contents old.stream) (contents new.stream) (early_of old.outbox) (due_of old.outbox) written (early_of new.outbox) (due_of new.outbox)

-- These bytes, which were let go, are none while its request is awaited, nor where it is to be answered, unless its end is a failure. Once it was
-- answered, what still comes may be let go.
abbrev pub LosesNone : Stage → List ℕ → Type 0
LosesNone Asking lost = lost ≡ []
LosesNone (Ready ending) lost = ending ≢ Failed → lost ≡ []
LosesNone (Replying asked) lost = Unit {0}
LosesNone (Resting asked room) lost = Unit {0}

module _ {S : Type 0} (remaining contents : S → Option (List ℕ)) where
  -- What was read of its stream stands behind what had come, and what was let go was read behind that: nothing, where its stage from now on is one
  -- that loses none. What went out on its stream is a front of what was due, or the interim reply. So no byte comes to it, and none goes out on it,
  -- that is not its own.
  pub record IsMoved (old new : Link S) (stage : Stage) : Type 0 where
    pub kept : List ℕ
    pub lost : List ℕ
    pub consumed : Consumes (remaining old.stream) (remaining new.stream) (kept ++ lost)
    pub gathered : new.inbox.came.items ≡ old.inbox.came.items ++ kept
    pub none : LosesNone stage lost
    pub written : Writes contents old new []

  -- A connection on this stream, on which nothing had come and nothing was due, and whose bytes then moved.
  pub record IsBegun (stream : S) (new : Link S) (stage : Stage) : Type 0 where
    pub first : Link S
    pub over : first.stream ≡ stream
    pub empty : first.inbox.came.items ≡ []
    pub none_due : due_of first.outbox ≡ []
    pub none_early : early_of first.outbox ≡ []
    pub moved : IsMoved first new stage

-- its request is to be answered
abbrev pub IsReady : Stage → Type 0
IsReady Asking = ⊥
IsReady (Ready ending) = Unit {0}
IsReady (Replying asked) = ⊥
IsReady (Resting asked room) = ⊥

-- its request was answered
abbrev pub IsAnswered : Stage → Type 0
IsAnswered Asking = ⊥
IsAnswered (Ready ending) = ⊥
IsAnswered (Replying asked) = Unit {0}
IsAnswered (Resting asked room) = Unit {0}

-- its request was not answered yet
abbrev pub IsUnanswered : Stage → Type 0
IsUnanswered Asking = Unit {0}
IsUnanswered (Ready ending) = Unit {0}
IsUnanswered (Replying asked) = ⊥
IsUnanswered (Resting asked room) = ⊥

-- How a stage may go on. What is to be answered stays as it is until it is given out, and what was answered is never asked again.
abbrev pub Follows : Stage → Stage → Type 0
Follows Asking new = IsUnanswered new
Follows (Ready ending) new = new ≡ Ready ending
Follows (Replying asked) new = IsAnswered new
Follows (Resting asked room) new = IsAnswered new
