-- Carried out: a change, a command or a query was carried out in a sound book as the definition
-- says, and the records stand for the book after it; or nothing was done. What a crash leaves of a
-- change or a command. What a call on records comes to, in a record.
use Rattle.std.specs.Prelude.{◌≡◌, ◌⊎◌, List, ◌∷◌, Result, Ok, Err, MatchResult, OnOk, ⊤}
use Rattle.fr_base.specs.Book.{Book}
use Rattle.fr_base.specs.Cluster.{Cluster}
use Rattle.fr_base.specs.Sound.{IsSound}
use Rattle.fr_base.specs.Step.{Outcome}
use Rattle.fr_base.specs.declared.answer.Answer.{Answer}
use Rattle.fr_base.specs.declared.answer.Answer.TheVariants.{Done}
use Rattle.fr_base.specs.declared.refusal.Refusal.{Refusal}
use Rattle.fr_base.specs.declared.refusal.Refusal.TheVariants.{Unavailable}
use Rattle.fr_world.specs.Held.{Applies, Leaving, LeavesEdited, Reads, Standing}
use Rattle.fr_world.specs.declared.edit.Edit.{Edit}
use Rattle.fr_world.specs.declared.records.Records.{Ghosts}

-- Nothing was done: for the reason that the definition gives, or the answer is Unavailable. The
-- records stand for the same book as before.
abbrev pub IsRefused : {A : Type 0} → Standing → Cluster → Book → Refusal → Result A Refusal → Type 0
IsRefused new c b e said = new c b × ((e ≡ Unavailable) ⊎ (said ≡ Err e))

-- In a sound book a change was carried out as the definition says, and the records stand for the
-- book after it; or nothing was done.
abbrev pub Does : Standing → Standing → Result ⊤ Refusal → (Cluster → Book → Result Book Refusal) → Type 0
Does old new r does = (c : Cluster) (b : Book) → old c b → IsSound c b → MatchResult r
    (λ _. (after : Book) × (does c b ≡ Ok after) × new c after)
    (λ e. IsRefused new c b e (does c b))

-- After a change in a sound book a crash leaves what it left before, or the book after the change.
abbrev pub MayLeave : Standing → Leaving → Leaving → (Cluster → Book → Result Book Refusal) → Type 0
MayLeave stands old new does = (c : Cluster) (b : Book) (books : List Book) → stands c b → IsSound c b → old c books
    → new c books ⊎ ((after : Book) × (does c b ≡ Ok after) × new c (after ∷ books))

-- After a command a crash leaves what it left before, or the book after the command.
abbrev pub LeavesDone : Standing → Leaving → Leaving → (Cluster → Book → Result Outcome Refusal) → Type 0
LeavesDone stands old new does = (c : Cluster) (b : Book) (books : List Book) → stands c b → IsSound c b → old c books
    → new c books ⊎ ((after : Outcome) × (does c b ≡ Ok after) × new c (after.book ∷ books))

-- In a sound book a command was carried out as the definition says, and is answered Done; or
-- nothing was done.
abbrev pub Performs : Standing → Standing → Result ⊤ Refusal → (Cluster → Book → Result Outcome Refusal) → Type 0
Performs old new r does = (c : Cluster) (b : Book) → old c b → IsSound c b → MatchResult r
    (λ _. (after : Book) × (does c b ≡ Ok (record { book = after; answer = Done })) × new c after)
    (λ e. IsRefused new c b e (does c b))

-- In a sound book a request that has an answer of its own was carried out as the definition says;
-- or nothing was done.
abbrev pub Gives : Standing → Standing → Result Answer Refusal → (Cluster → Book → Result Outcome Refusal) → Type 0
Gives old new r does = (c : Cluster) (b : Book) → old c b → IsSound c b → MatchResult r
    (λ answer. (after : Book) × (does c b ≡ Ok (record { book = after; answer = answer })) × new c after)
    (λ e. IsRefused new c b e (does c b))

-- A query of the book is answered as the definition says, or Unavailable. The records stand for the
-- same book as before.
abbrev pub Replies : {A : Type 0} → (Cluster → Book → Result A Refusal) → Standing → Standing → Result A Refusal → Type 0
Replies reply old new r = (c : Cluster) (b : Book) → old c b → IsSound c b → new c b × MatchResult r
    (λ answer. reply c b ≡ Ok answer)
    (λ e. (e ≡ Unavailable) ⊎ (reply c b ≡ Err e))

-- ---- calls on records

-- A call only read the records, and what it told of the book is said by `Told`. The records were
-- clean before if they are now, and the cluster's parameters stay. A crash leaves nothing that it
-- did not leave before.
pub record OnlyReads {R X : Type 0} (g : Ghosts R) (Told : Standing → Standing → Result X Refusal → Type 0) (old new : R) (r : Result X Refusal) : Type 0 where
  pub reads : Reads g.clean g.params g.leaves old new
  pub told : g.clean new → Told (g.stands old) (g.stands new) r

-- In a sound book a call carried out a change as the definition says, or did nothing. The records
-- were clean before if they are now, and the cluster's parameters stay. After the change they can be
-- read and changed. A crash leaves what it left before, or the book after the change.
pub record CarriesStep {R : Type 0} (g : Ghosts R) (step : Cluster → Book → Result Book Refusal) (old new : R) (r : Result ⊤ Refusal) : Type 0 where
  pub falls : g.clean new → g.clean old
  pub same : g.params new ≡ g.params old
  pub serves : g.clean new → OnOk r (g.serves new)
  pub leaves : g.clean new → MayLeave (g.stands old) (g.leaves old) (g.leaves new) step
  pub does : g.clean new → Does (g.stands old) (g.stands new) r step

-- A call carried out edits that fit the book, one after another, all of them or none. The records
-- were clean before if they are now, and the cluster's parameters stay. After the edits they can be
-- read and changed. A crash leaves what it left before, or the book after the edits.
pub record CarriesEdits {R : Type 0} (g : Ghosts R) (edits : List Edit) (old new : R) (r : Result ⊤ Refusal) : Type 0 where
  pub falls : g.clean new → g.clean old
  pub same : g.params new ≡ g.params old
  pub serves : g.clean new → OnOk r (g.serves new)
  pub leaves : g.clean new → LeavesEdited (g.stands old) (g.leaves old) (g.leaves new) edits
  pub applies : g.clean new → Applies (g.stands old) (g.stands new) r edits
