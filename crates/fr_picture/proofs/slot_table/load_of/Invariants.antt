use Rattle.std.proofs.Common.{◌≡◌, ◌+◌, ◌-◌, ◌^◌, min, take}
use Rattle.std.specs.List.{fold}
use Rattle.fr_picture.proofs.slot_table.load_of.Given as goal

-- those up to here
abbrev pub invariant-loop-one : goal.invariant-loop-one
invariant-loop-one l = l.load ≡ fold (λ n r. min (n + r.cycles) (2 ^ 64 - 1)) 0 (take l.one-index l.rectangles)
