use Rattle.std.proofs.Common.{◌≡◌, ◌<◌, ◌^◌, drop}
use Rattle.fr_picture.specs.Kinds.{follows}
use Rattle.fr_picture.proofs.kinds.follows.Given as goal

-- those up to here follow
abbrev pub invariant-loop-one : goal.invariant-loop-one
invariant-loop-one l = record {
  rest : follows l.from l.step l.height l.same ≡ follows l.next l.step l.height (drop l.one-index l.same);
  small : l.next < 2 ^ 33;
}
