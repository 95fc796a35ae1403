-- Row's fault: whether a fault is the refusal of a row. A fault may always be want of memory.
use Rattle.std.specs.Prelude.{◌≡◌, Result, Err, ⊤}
use Rattle.fr_base.specs.Step as step
use Rattle.fr_world.specs.declared.decision.import_rows.RowFault.{RowFault}
use Rattle.fr_world.specs.declared.decision.import_rows.RowFault.TheVariants.{Row, Unavailable}

-- The fault is of the row that is refused here, or of memory.
abbrev pub IsFault : {A : Type 0} → Result A step.RefusedAt → RowFault → Type 0
IsFault r (Row line refusal) = r ≡ Err (record { line = line; refusal = refusal })
IsFault r Unavailable = ⊤
