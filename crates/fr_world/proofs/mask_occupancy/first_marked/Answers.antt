use Rattle.std.proofs.Common.{◌<◌, arith, bit_and}
use Rattle.std.specs.Prelude.{◌^◌}
use Rattle.std.proofs.lemmas.Nat.{and_le_l}
use Rattle.fr_world.proofs.MarkLaws as laws
use Rattle.fr_world.proofs.mask_occupancy.first_marked.Goals as goal

pub returns-then-marked-eq0 : goal.returns-then-marked-eq0
returns-then-marked-eq0 c = laws.none_marked c.args.cycles.now c.args.word c.mask.result c.mask.ensures (omega (arith, c.if-marked-eq0.true))

pub returns : goal.returns
returns c =
    let some : 0 < bit_and c.args.word c.mask.result = omega (arith, c.if-marked-eq0.false) in
    let small : bit_and c.args.word c.mask.result < 2 ^ 64 = omega (arith, and_le_l c.args.word c.mask.result, c.ranges.word.fits) in
    laws.first_marked c.args.cycles.now c.args.word c.mask.result c.mask.ensures some small
