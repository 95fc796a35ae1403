-- Reading: what a job reads of the book for which the register stands, which stays. What is printed of it: a text of
-- what was read, or the line of a refusal.
use Rattle.std.specs.Prelude.{◌≡◌, ℕ, List, Result, Ok, Err}
use Rattle.std.specs.Global.{Vec}
use Rattle.fr_base.specs.Book.{Book}
use Rattle.fr_base.specs.Cluster.{Cluster}
use Rattle.fr_base.specs.Desks.{InSound}
use Rattle.fr_base.specs.declared.answer.Answer.TheVariants as answer
use Rattle.fr_base.specs.declared.refusal.Refusal.{Refusal}
use Rattle.fr_world.specs.Held.{Standing}
use Rattle.fr_cli.specs.SingleRequest.{for_reader}
use Rattle.fr_cli.specs.Outcomes.{line_of}
use Rattle.fr_cli.specs.declared.failure.Failure.{Failure}
use Rattle.fr_cli.specs.declared.failure.Failure.TheVariants as failure
use Rattle.fr_cli.specs.declared.fault.Fault.{Fault}

-- what may be read of a book, or why it is refused
abbrev pub Reading : Type 0 → Type 1
Reading X = Cluster → Book → Result X Refusal → Type 0

-- In each sound book for which the register stood this may be read, and the register stands for the same book as before.
abbrev pub IsRead : {X : Type 0} → Reading X → Type 0 → Standing → Standing → Result X Refusal → Type 0
IsRead may clean old new read = clean → InSound old (λ c b. new c b × may c b read)

-- The register stands for the same book as before.
abbrev pub Stays : Type 0 → Standing → Standing → Type 0
Stays clean old new = clean → InSound old (λ c b. new c b)

-- What is printed is such a text of what was read; where that was refused, the refusal's line; or such a fault ended it.
abbrev pub PrintsRead : {X : Type 0} → (Fault → Type 0) → (Result X Refusal → Type 0) → (X → List ℕ → Type 0) → Result (Vec ℕ) Failure → Type 0
PrintsRead {X} May Is IsText (Ok text) = (x : X) × Is (Ok x) × IsText x text.items
PrintsRead May Is IsText (Err (failure.RefusedRows text)) = ⊥
PrintsRead May Is IsText (Err (failure.UnplacedWishes file lines)) = ⊥
PrintsRead May Is IsText (Err (failure.Refused line)) = (refusal : Refusal) × Is (Err refusal) × (line.items ≡ line_of (for_reader (answer.Refused refusal)))
PrintsRead May Is IsText (Err (failure.Fault fault)) = May fault
