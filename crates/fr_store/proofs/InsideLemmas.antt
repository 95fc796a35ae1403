-- What stays while edits are carried out inside a transaction.
use Rattle.std.proofs.Common.{inl, inr, IsTrue, ◌∙◌}
use Rattle.sqlite.specs.State.{State, KeepsCommit, IsUnchanged}
use Rattle.fr_store.specs.Applying.{GoesOn}
use Rattle.fr_tables.specs.Tables.{Tables, HasTables}
use Rattle.fr_tables.specs.Changes.{Changes, Stays}
use Rattle.fr_store.proofs.ChainLemmas.{has_still}

pub keeps_change : (change : Tables → Tables) (old new : State) → IsTrue old.in_transaction → Changes change old new → KeepsCommit old new
keeps_change change old new inside h = record { was_open = λ up. h.shown.was_open; committed = λ up. rw inside at h.shown.committed_is }

pub keeps_stay : (old new : State) → Stays old new → KeepsCommit old new
keeps_stay old new (inl same) = record { was_open = λ up. same.0.was_open; committed = λ up. same.0.committed_is }
keeps_stay old new (inr undone) = record { was_open = undone.was_open; committed = λ up. (undone.undone up).1 }

pub keeps_then : (a b c : State) → KeepsCommit a b → KeepsCommit b c → KeepsCommit a c
keeps_then a b c h k = record { was_open = λ up. h.was_open (k.was_open up); committed = λ up. k.committed up ∙ h.committed (k.was_open up) }

-- a statement that makes its change
pub made_inside : (change : Tables → Tables) (old new : State) → IsTrue old.in_transaction → Changes change old new → KeepsCommit old new × GoesOn new
made_inside change old new inside h = (keeps_change change old new inside h, record { inside = h.shown.mode ∙ inside; has = h.has })

-- a query that changes nothing
pub asked_inside : (old new : State) → IsTrue old.in_transaction → HasTables old.now → IsUnchanged old new → KeepsCommit old new × GoesOn new
asked_inside old new inside has same = (keeps_stay old new (inl same), record { inside = same.0.mode ∙ inside; has = has_still old new same has })

-- one after the other
pub both_inside : (a b c : State) → KeepsCommit a b × GoesOn b → KeepsCommit b c × GoesOn c → KeepsCommit a c × GoesOn c
both_inside a b c h k = (keeps_then a b c h.0 k.0, k.1)
