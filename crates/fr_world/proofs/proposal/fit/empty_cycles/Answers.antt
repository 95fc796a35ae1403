use Rattle.std.proofs.Common.{◌+◌, sym, subst}
use Rattle.fr_base.specs.Cycles.{is_cycle_set}
use Rattle.fr_world.specs.Proposals.{cycles_with, is_empty}
use Rattle.fr_world.proofs.FitLaws.{EmptyBelow, answered-not, answered-some, empty-added, empty-all, empty-none, empty-skipped, is-set, some-repetition}
use Rattle.fr_world.proofs.proposal.fit.empty_cycles.Goals as goal
use Rattle.fr_world.proofs.proposal.fit.empty_cycles.Goals.{in-Some, in_default}

pub loop-base-init : goal.loop-base-init
loop-base-init c = empty-none c.args.params.now c.args.filled c.args.repetition

pub loop-base-preserved : goal.loop-base-preserved
loop-base-preserved c =
    let p = c.args.params.now in
    let r = c.args.repetition in
    let base = c.loop-base.base in
    let set = is_cycle_set p.cycles base r in
    let free = is_empty c.args.filled (cycles_with p base r) in
    elim c.match-free_cycles.branch [
      | in-Some w ↦
          let found = answered-some set free (cycles_with p base r) c.free_cycles.result c.free_cycles.ensures w.in-Some.cycles w.in-Some.is in
          empty-added p c.args.filled r base c.loop-base.empty c.match-free_cycles.empty c.loop-base.invariant w.in-Some.cycles found.1 found.0 w.mask-empty.result w.mask-empty.ensures w.empty-is
      | in_default w ↦
          subst (λ word. EmptyBelow p c.args.filled r word (base + 1)) (sym w.empty-is)
          (empty-skipped p c.args.filled r base c.loop-base.empty c.loop-base.empty c.loop-base.invariant
          (answered-not set free (cycles_with p base r) c.free_cycles.result c.free_cycles.ensures (is-set p.cycles base r c.requires c.loop-base-test.true) w.in_default.not-Some))
    ]

pub returns : goal.returns
returns c = empty-all c.args.params.now c.args.filled c.args.repetition c.loop-base.empty c.loop-base.base c.loop-base.invariant (some-repetition c.args.params.now.cycles c.args.repetition c.requires) c.loop-base-test.false
