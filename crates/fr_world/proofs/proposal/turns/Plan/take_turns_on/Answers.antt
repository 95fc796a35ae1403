use Rattle.std.proofs.Common.{◌≡◌, ◌∙◌, suc, ◌+◌, ◌-◌, ◌%◌, sym, ap, subst, arith}
use Rattle.fr_base.specs.Turns.{turns_on}
use Rattle.fr_world.specs.Plans.{Takes}
use Rattle.fr_world.specs.declared.proposal.turns.Plan.{Plan}
use Rattle.fr_world.proofs.TurnLaws.{takes-more, takes-none, turn-more, turn-skipped, turns_below}
use Rattle.fr_world.proofs.FitLaws.{divides-test, other-test}
use Rattle.fr_world.proofs.proposal.turns.Plan.take_turns_on.Goals as goal
use Rattle.fr_world.proofs.proposal.turns.Plan.take_turns_on.Goals.{then-cycles-repetition-eq0+in_ok-take_alike, else-cycles-repetition-eq0}

pub loop-repetition-init : goal.loop-repetition-init
loop-repetition-init c on at = takes-none c.args.params.now on c.args.self.now.cells c.args.self.now.given.items

pub loop-repetition-preserved : goal.loop-repetition-preserved
loop-repetition-preserved c on at =
    let p = c.args.params.now in
    let wishes = c.args.wishes.now in
    let cs = c.args.channels in
    let r = c.loop-repetition.repetition in
    let some = c.loop-repetition.auto.repetition in
    let here : r ≡ 1 + (r - 1) = omega (arith, some) in
    let next : (r + 1) - 1 ≡ suc (r - 1) = omega (arith, some) in
    let first = c.args.self.now in
    let old = c.loop-repetition.self in
    let before = c.loop-repetition.invariant on at in
    let cycles = c.cycles.ensures.value in
    elim c.if-cycles-repetition-eq0.branch [
      | then-cycles-repetition-eq0+in_ok-take_alike w ↦
          let new = w.take_alike.new.self in
          subst (λ (self : Plan). Takes p on first.cells self.cells first.given.items self.given.items (turns_below p wishes cs ((r + 1) - 1))) (sym w.self-is)
          (subst (Takes p on first.cells new.cells first.given.items new.given.items) (turn-more p wishes cs r (r - 1) here ((r + 1) - 1) next (divides-test p.cycles r some (ap (λ n. n % r) (sym cycles) ∙ w.if-cycles-repetition-eq0.true)))
          (takes-more p on first.cells old.cells new.cells first.given.items old.given.items new.given.items _ _ before (w.in_ok-take_alike.ensures on at)))
      | else-cycles-repetition-eq0 w ↦
          subst (λ (self : Plan). Takes p on first.cells self.cells first.given.items self.given.items (turns_below p wishes cs ((r + 1) - 1))) (sym w.self-is)
          (subst (Takes p on first.cells old.cells first.given.items old.given.items) (turn-skipped p wishes cs r (r - 1) here ((r + 1) - 1) next (other-test p.cycles r (λ e. w.if-cycles-repetition-eq0.false (ap (λ n. n % r) cycles ∙ e)))) before)
    ]

pub returns : goal.returns
unfolding turns_on
returns c on at =
    let p = c.args.params.now in
    let last : c.loop-repetition.repetition - 1 ≡ p.cycles = omega (arith, c.loop-repetition-test.false, c.loop-repetition.auto.repetition, c.loop-repetition.auto.repetition-end (omega arith), c.cycles-repetition-end.ensures.value) in
    subst (λ n. Takes p on c.args.self.now.cells c.loop-repetition.self.cells c.args.self.now.given.items c.loop-repetition.self.given.items (turns_below p c.args.wishes.now c.args.channels n)) last (c.loop-repetition.invariant on at)
