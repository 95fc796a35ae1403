use Rattle.std.proofs.Common.{◌≡◌, ◌++◌, take}
use Rattle.std.specs.List.{flat_map}
use Rattle.std.specs.String.{string_bytes}
use Rattle.fr_picture.specs.ChangeShapes.{sign_of}
use Rattle.fr_picture.specs.ChangeTables.{row_text}
use Rattle.fr_picture.proofs.change_table.push_rows.Given as goal

-- the text of those up to here
abbrev pub invariant-loop-change : goal.invariant-loop-change
invariant-loop-change l = string_bytes l.out ≡ string_bytes l.initial.out ++ flat_map (λ d. row_text (sign_of d.is_new) d.row) (take l.change-index l.rows)
