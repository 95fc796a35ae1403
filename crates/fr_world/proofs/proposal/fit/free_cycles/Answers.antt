use Rattle.std.proofs.Common.{◌∙◌, ◌<◌, ap, sym, arith, bit_and}
use Rattle.std.specs.Prelude.{◌^◌}
use Rattle.std.proofs.lemmas.Nat.{and_le_l}
use Rattle.fr_world.proofs.FitLaws.{free-set, no-set, taken-set}
use Rattle.fr_world.proofs.MarkLaws.{first_marked, none_marked}
use Rattle.fr_world.proofs.proposal.fit.free_cycles.Goals as goal

pub returns-in_err-cycles : goal.returns-in_err-cycles
returns-in_err-cycles c =
    c.from_residual.ensures
    ∙ no-set c.args.params.now c.args.filled c.args.base c.args.repetition c.cycles.result c.new.result c.cycles.ensures.value c.new.ensures (sym c.ok.ensures.value ∙ c.in_err-cycles.was)

pub returns-then-filled-mask-ne0 : goal.returns-then-filled-mask-ne0
returns-then-filled-mask-ne0 c =
    let some : 0 < bit_and c.args.filled c.mask.result = omega (arith, c.if-filled-mask-ne0.true) in
    let small : bit_and c.args.filled c.mask.result < 2 ^ 64 = omega (arith, and_le_l c.args.filled c.mask.result, c.ranges.filled.fits) in
    taken-set c.args.params.now c.args.filled c.args.base c.args.repetition c.cycles.result c.new.result c.cycles.ensures.value c.new.ensures c.in_ok-cycles.cycles (sym c.ok.ensures.value ∙ c.in_ok-cycles.was) _
    (first_marked c.in_ok-cycles.cycles c.args.filled c.mask.result c.mask.ensures some small)

pub returns : goal.returns
returns c =
    free-set c.args.params.now c.args.filled c.args.base c.args.repetition c.cycles.result c.new.result c.cycles.ensures.value c.new.ensures c.in_ok-cycles.cycles (sym c.ok.ensures.value ∙ c.in_ok-cycles.was)
    (none_marked c.in_ok-cycles.cycles c.args.filled c.mask.result c.mask.ensures (omega (arith, c.if-filled-mask-ne0.false)))
