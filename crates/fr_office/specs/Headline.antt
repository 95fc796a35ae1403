-- Promise: what holds of requests that were answered, from a book to the last. Each supplier was answered as if it were
-- alone. After each of them at most one frame is sent in a cell, by the node that holds the grant.
use Rattle.std.specs.Global.{Vec}
use Rattle.std.specs.Prelude.{◌≡◌, ℕ, List, [], ◌∷◌, length, take, drop, Some, Result, MatchResult, ⊤}
use Rattle.fr_base.specs.Alone.{rows_of, asks_of, answers_of, answers_to, book_after}
use Rattle.fr_base.specs.Book.{Frame, Variant, Book}
use Rattle.fr_base.specs.Cells.{Cell}
use Rattle.fr_base.specs.Cluster.{Cluster}
use Rattle.fr_base.specs.Run.{IsRun}
use Rattle.fr_base.specs.Sound.{IsSent, IsSound}
use Rattle.fr_base.specs.Tables.{get}
use Rattle.fr_base.specs.declared.actor.Actor.{Actor}
use Rattle.fr_base.specs.declared.actor.Actor.TheVariants.{Integrator, Supplier}
use Rattle.fr_base.specs.declared.answer.Answer.{Answer}
use Rattle.fr_base.specs.declared.answer.Answer.TheVariants.{Done}
use Rattle.fr_base.specs.declared.name.Name.{Name}
use Rattle.fr_base.specs.declared.placement.Placement.{Placement}
use Rattle.fr_base.specs.declared.request.Ask.{Ask}
use Rattle.fr_office.specs.declared.running.Stopped.{Stopped}
use Rattle.fr_world.specs.Held.{Standing}

-- what the integrator asked was done; what a supplier asked may have any answer
abbrev pub IsDoneFor : Actor → Answer → Type 0
IsDoneFor Integrator answer = answer ≡ Done
IsDoneFor (Supplier s) answer = ⊤

-- Each of the integrator's commands among these requests was answered Done.
abbrev pub AreDone : List Ask → List Answer → Type 0
AreDone [] [] = ⊤
AreDone (ask ∷ asks) (answer ∷ answers) = IsDoneFor ask.actor answer × AreDone asks answers
AreDone _ _ = ⊥

-- The requests had these answers, from this book to the last. Some of them are the supplier's: its
-- own, except those that were Unavailable, and the integrator's commands that were done and are
-- common to all or name it. A register that holds this supplier alone begins with the supplier's
-- rows of the book and is asked these, one after another. It gives the same answers one by one,
-- Done to each of the integrator's commands, and ends with the supplier's rows of the last book.
-- Which suppliers a register holds stands in its book alone, so both registers are of the same
-- cluster.
pub record IsAsIfAlone (c : Cluster) (s : Name) (b : Book) (asks : List Ask) (answers : List Answer) (last : Book) : Type 0 where
  pub same : answers_to c (rows_of s b) (asks_of s asks answers) ≡ answers_of s asks answers
  pub done : AreDone (asks_of s asks answers) (answers_to c (rows_of s b) (asks_of s asks answers))
  pub rows : book_after c (rows_of s b) (asks_of s asks answers) ≡ rows_of s last

-- In each variant of the book, of all frames of all suppliers at most one is sent in a cell, by one of its placements alone; and
-- the supplier and node that send it hold the grant of the cell's slot and channel.
pub record IsCollisionFree (b : Book) : Type 0 where
  pub one : (name : Name) (v : Variant) (k l : Name × Name) (f g : Frame) (q r : Placement) (cell : Cell) →
      get b.variants name ≡ Some v → IsSent v k f q cell → IsSent v l g r cell → (k ≡ l) × (q ≡ r)
  pub holder : (name : Name) (v : Variant) (k : Name × Name) (f : Frame) (q : Placement) (cell : Cell) →
      get b.variants name ≡ Some v → IsSent v k f q cell → get v.grants (cell.slot, cell.channel) ≡ Some (record { supplier = k.0; node = f.node })

-- After so many of the requests the book was free of collisions.
pub record IsCollisionFreeAfter (c : Cluster) (b : Book) (asks : List Ask) (answers : List Answer) (last : Book) (n : ℕ) : Type 0 where
  pub book : Book
  pub before : IsRun c b (take n asks) (take n answers) book
  pub free : IsCollisionFree book
  pub after : IsRun c book (drop n asks) (drop n answers) last

-- The requests had these answers, from this book to the last: to each supplier as if it were alone.
-- After each of them the book was free of collisions.
pub record IsAsPromised (c : Cluster) (b : Book) (asks : List Ask) (answers : List Answer) (last : Book) : Type 0 where
  pub alone : (s : Name) → IsAsIfAlone c s b asks answers last
  pub collision_free : (n : ℕ) → IsCollisionFreeAfter c b asks answers last n

-- The requests had these answers, one after another, and the register now stands for the book to
-- which they led. It is sound, and all is as promised.
pub record WereAnswered (now : Book → Type 0) (c : Cluster) (b : Book) (asks : List Ask) (answers : List Answer) : Type 0 where
  pub last : Book
  pub stands : now last
  pub run : IsRun c b asks answers last
  pub sound : IsSound c last
  pub promised : IsAsPromised c b asks answers last

-- For each sound book for which the register stood, all the requests had these answers; or, where
-- memory ended, those before had.
abbrev pub AnswersEach : Standing → Standing → List Ask → Result (Vec Answer) Stopped → Type 0
AnswersEach old new asks result = (c : Cluster) (b : Book) → old c b → IsSound c b → MatchResult result
    (λ answers. WereAnswered (new c) c b asks answers.items)
    (λ stopped. WereAnswered (new c) c b (take (length stopped.answers.items) asks) stopped.answers.items)
