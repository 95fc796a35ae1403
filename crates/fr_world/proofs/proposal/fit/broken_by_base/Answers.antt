use Rattle.std.proofs.Common.{◌≡◌, ◌∙◌, suc, ◌+◌, ◌-◌, ◌<◌, ◌≤◌, cond, get_or, sym, ap, subst, arith}
use Rattle.std.proofs.lemmas.List.{get_or-replicate}
use Rattle.fr_base.specs.Cycles.{is_bit_set}
use Rattle.fr_world.proofs.FitLaws.{bit-small, broken-more, broken-same, coarser-divides, divides-test, other-test}
use Rattle.fr_world.proofs.proposal.fit.broken_by_base.Goals as goal
use Rattle.fr_world.proofs.proposal.fit.broken_by_base.Goals.{then-repetition-coarser-eq0, else-repetition-coarser-eq0}

pub loop-coarser-init : goal.loop-coarser-init
loop-coarser-init c = record {
  counted = λ base low. get_or-replicate 64 base 0 0 (omega (arith, low, c.requires.within, c.requires.few));
  few = λ k low. subst (λ n. n < 1) (sym (get_or-replicate 64 k 0 0 low)) (omega arith);
}

pub empty_cycles-requires : goal.empty_cycles-requires
empty_cycles-requires c = coarser-divides c.args.params.now.cycles c.args.repetition c.loop-coarser.coarser c.loop-coarser.auto.coarser c.if-repetition-coarser-eq0.true c.requires.divides

pub count-requires : goal.count-requires
count-requires c k low = let few = c.loop-coarser.invariant.few k low in omega (arith, few, c.loop-coarser-test.true, c.requires.within, c.requires.few)

pub loop-coarser-preserved : goal.loop-coarser-preserved
loop-coarser-preserved c =
    let p = c.args.params.now in
    let r = c.args.repetition in
    let d = c.loop-coarser.coarser in
    let at : d ≡ 1 + (d - 1) = omega (arith, c.loop-coarser.auto.coarser) in
    let next : (d + 1) - 1 ≡ suc (d - 1) = omega (arith, c.loop-coarser.auto.coarser) in
    elim c.if-repetition-coarser-eq0.branch [
      | then-repetition-coarser-eq0 w ↦ record {
        counted = λ base low.
            let inside : base < 64 = omega (arith, low, c.requires.within, c.requires.few) in
            ap (λ counts. get_or counts base 0) w.broken-is
            ∙ broken-more p c.args.filled r base d (d - 1) ((d + 1) - 1) at next (get_or c.loop-coarser.broken base 0) _ (cond (is_bit_set w.empty_cycles.result base) 1 0)
            (c.loop-coarser.invariant.counted base low) (divides-test r d c.loop-coarser.auto.coarser w.if-repetition-coarser-eq0.true) (w.count.ensures base inside)
            (ap (λ b. cond b 1 0) (w.empty_cycles.ensures base (omega (arith, low, c.requires.within))));
        few = λ k low.
            let before = c.loop-coarser.invariant.few k low in
            subst (λ counts. get_or counts k 0 < d + 1) (sym w.broken-is) (omega (arith, before, w.count.ensures k low, bit-small (is_bit_set w.empty_cycles.result k)));
      }
      | else-repetition-coarser-eq0 w ↦ record {
        counted = λ base low.
            ap (λ counts. get_or counts base 0) w.broken-is
            ∙ broken-same p c.args.filled r base d (d - 1) ((d + 1) - 1) at next (get_or c.loop-coarser.broken base 0) (c.loop-coarser.invariant.counted base low) (other-test r d w.if-repetition-coarser-eq0.false);
        few = λ k low.
            let before = c.loop-coarser.invariant.few k low in
            subst (λ counts. get_or counts k 0 < d + 1) (sym w.broken-is) (omega (arith, before));
      }
    ]
