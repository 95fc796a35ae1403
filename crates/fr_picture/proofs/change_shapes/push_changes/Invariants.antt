use Rattle.std.proofs.Common.{◌≡◌, ◌++◌, take}
use Rattle.std.specs.List.{flat_map}
use Rattle.std.specs.String.{string_bytes}
use Rattle.fr_picture.specs.ChangeShapes.{seen_text}
use Rattle.fr_picture.proofs.change_shapes.push_changes.Given as goal

-- the text of those up to here
abbrev pub invariant-loop-change : goal.invariant-loop-change
invariant-loop-change l = string_bytes l.out ≡ string_bytes l.initial.out ++ flat_map (λ d. seen_text l.scale d.is_new d.row) (take l.change-index l.changed)
