use Rattle.std.proofs.Common.{◌≡◌, take, filter}
use Rattle.fr_picture.specs.Kinds.{is_of_same_frame}
use Rattle.fr_picture.proofs.kinds.of_same_frame.Given as goal

-- those of the frame up to here
abbrev pub invariant-loop-other : goal.invariant-loop-other
invariant-loop-other l = l.same.items ≡ filter (λ other. is_of_same_frame other l.one) (take l.other-index l.all)
