use Rattle.std.proofs.Common.{◌<◌, ◌+◌, ◌∙◌, arith, ap, subst, sym}
use Rattle.fr_base.proofs.CycleLemmas.{within}
use Rattle.fr_world.proofs.ClaimLaws.{IsClaimedBelow, claimed-all, claimed-next, claimed-start}
use Rattle.fr_world.proofs.slot_table.claim_cycles.Goals as goal

pub loop-cycle-init : goal.loop-cycle-init
loop-cycle-init c =
    let q = c.args.placement.now in
    let low : q.cycles.base < q.cycles.repetition = (within q.cycles c.base.ensures.are_cycles).base in
    let start = claimed-start q c.args.place c.args.cycles.now c.requires low in
    subst (IsClaimedBelow q c.args.place c.args.cycles.now c.args.cycles.now) (sym (c.from-cycle.ensures ∙ c.base.ensures.value)) start

pub loop-cycle-preserved : goal.loop-cycle-preserved
loop-cycle-preserved c =
    let q = c.args.placement.now in
    let low : q.cycles.base < q.cycles.repetition = (within q.cycles c.base.ensures.are_cycles).base in
    claimed-next q c.args.place c.args.cycles.now c.loop-cycle.cycles c.loop-cycle.cycle c.claim.new.self (omega (arith, c.loop-cycle-test.true, c.from-count.ensures, c.cycles.ensures.value)) (within q.cycles c.base.ensures.are_cycles).most c.claim.ensures _ low
    (ap (λ n. c.loop-cycle.cycle + n) (c.from-cycle-in-loop-cycle.ensures ∙ c.repetition.ensures.value)) c.loop-cycle.invariant

pub returns-clause-claimed : goal.returns-clause-claimed
returns-clause-claimed c = claimed-all c.args.placement.now c.args.place c.args.cycles.now c.loop-cycle.cycles c.loop-cycle.cycle (omega (arith, c.loop-cycle-test.false, c.from-count.ensures, c.cycles.ensures.value)) c.loop-cycle.invariant
