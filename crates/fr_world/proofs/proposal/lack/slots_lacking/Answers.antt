use Rattle.std.proofs.Common.{◌≡◌, ◌∙◌, suc, ◌+◌, ◌-◌, ◌%◌, ◌++◌, [], sym, ap, subst, arith, append-nil}
use Rattle.fr_base.specs.Lacks.{open_slots}
use Rattle.fr_base.specs.Turns.{turns_on}
use Rattle.fr_world.specs.Plans.{Opens}
use Rattle.fr_world.specs.declared.proposal.lack.OpenSlots.{OpenSlots}
use Rattle.fr_world.proofs.FitLaws.{divides-test, other-test}
use Rattle.fr_world.proofs.LackSlots.{opens-more, turns-alone}
use Rattle.fr_world.proofs.TurnLaws.{turn-more, turn-skipped, turns_below}
use Rattle.fr_world.proofs.proposal.lack.slots_lacking.Goals as goal
use Rattle.fr_world.proofs.proposal.lack.slots_lacking.Goals.{then-cycles-repetition-eq0+in_ok-take_alike, else-cycles-repetition-eq0}

pub loop-repetition-preserved : goal.loop-repetition-preserved
loop-repetition-preserved c =
    let p = c.args.params.now in
    let wishes = c.args.wishes.now in
    let cs = c.args.channels in
    let r = c.loop-repetition.repetition in
    let some = c.loop-repetition.auto.repetition in
    let here : r ≡ 1 + (r - 1) = omega (arith, some) in
    let next : (r + 1) - 1 ≡ suc (r - 1) = omega (arith, some) in
    let old = c.loop-repetition.slots in
    let before = c.loop-repetition.invariant in
    let cycles = c.cycles.ensures.value in
    elim c.if-cycles-repetition-eq0.branch [
      | then-cycles-repetition-eq0+in_ok-take_alike w ↦
          let new = w.take_alike.new.self in
          subst (λ (slots : OpenSlots). Opens p 0 [] slots.count slots.cells (turns_below p wishes cs ((r + 1) - 1))) (sym w.slots-is)
          (subst (Opens p 0 [] new.count new.cells) (turn-more p wishes cs r (r - 1) here ((r + 1) - 1) next (divides-test p.cycles r some (ap (λ n. n % r) (sym cycles) ∙ w.if-cycles-repetition-eq0.true)))
          (opens-more p 0 old.count new.count [] old.cells new.cells _ _ before w.in_ok-take_alike.ensures.ok))
      | else-cycles-repetition-eq0 w ↦
          subst (λ (slots : OpenSlots). Opens p 0 [] slots.count slots.cells (turns_below p wishes cs ((r + 1) - 1))) (sym w.slots-is)
          (subst (Opens p 0 [] old.count old.cells) (turn-skipped p wishes cs r (r - 1) here ((r + 1) - 1) next (other-test p.cycles r (λ e. w.if-cycles-repetition-eq0.false (ap (λ n. n % r) cycles ∙ e)))) before)
    ]

pub returns-clause-ok : goal.returns-clause-ok
unfolding turns_on open_slots
returns-clause-ok c all =
    let p = c.args.params.now in
    let wishes = c.args.wishes.now in
    let cs = c.args.channels in
    let slots = c.loop-repetition.slots in
    let last : c.loop-repetition.repetition - 1 ≡ p.cycles = omega (arith, c.loop-repetition-test.false, c.loop-repetition.auto.repetition, c.loop-repetition.auto.repetition-end (omega arith), c.cycles-repetition-end.ensures.value) in
    let opened : Opens p 0 [] slots.count slots.cells (turns_on p wishes cs) = subst (λ n. Opens p 0 [] slots.count slots.cells (turns_below p wishes cs n)) last c.loop-repetition.invariant in
    sym (ap (open_slots p 0 []) (sym (turns-alone p cs wishes all) ∙ sym (append-nil (turns_on p wishes cs))) ∙ opened [])
