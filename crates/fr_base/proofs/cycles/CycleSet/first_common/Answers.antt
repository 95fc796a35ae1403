use Rattle.std.proofs.Common.{◌<◌, arith, bit_and}
use Rattle.std.specs.Prelude.{◌^◌}
use Rattle.std.proofs.lemmas.Nat.{and_le_l}
use Rattle.fr_base.proofs.MaskLemmas.{first_shared, none_shared}
use Rattle.fr_base.proofs.cycles.CycleSet.first_common.Goals as goal

pub returns-then-both-eq0 : goal.returns-then-both-eq0
returns-then-both-eq0 c = none_shared _ _ _ _ c.mask.ensures c.mask-2.ensures c.if-both-eq0.true

pub returns : goal.returns
returns c =
    let some : 0 < bit_and c.mask.result c.mask-2.result = omega (arith, c.if-both-eq0.false) in
    let small : bit_and c.mask.result c.mask-2.result < 2 ^ 64 = omega (arith, and_le_l c.mask.result c.mask-2.result, c.mask.type_inv) in
    first_shared _ _ _ _ c.mask.ensures c.mask-2.ensures some small
