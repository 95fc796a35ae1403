use Rattle.std.proofs.Common.{◌≡◌, ◌++◌, map}
use Rattle.fr_world.specs.Pages.{own_rows_of}
use Rattle.fr_world.proofs.ClearingLaws.{names_in}
use Rattle.fr_world.proofs.decision.clearing.frame_names.Given as goal

-- the names so far, and those that are left
abbrev pub invariant-loop-name : goal.invariant-loop-name
invariant-loop-name l = l.names.items ++ names_in l.name-iterator ≡ map (λ row. row.0.1) (own_rows_of l.page).frames.rows
