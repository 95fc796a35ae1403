use Rattle.std.proofs.Common.{◌≡◌, ◌*◌, ◌-◌, ◌+◌, None, Some, max, arith, sym, subst, ap, ◌∙◌, rules}
use Rattle.std.specs.List.Sorted.{IsPermutation}
use Rattle.std.proofs.lemmas.List.Sorted.{IsNonDecreasingBy-from_sort_by_key}
use Rattle.fr_world.proofs.MomentLaws.{moment_at-is}
use Rattle.fr_world.proofs.WalkLaws.{AreRising-from, Sees, Sees-cycle, Sees-end, Sees-greatest, Sees-inside, Sees-last, Sees-more, Sees-none, Sees-nothing, Sees-skip, fits_at, greatest_gap-nil, moment_fits, slot_fits}
use Rattle.fr_world.proofs.gap.greatest_gap.Goals as goal
use Rattle.fr_world.proofs.gap.greatest_gap.Goals.{then-contains, else-contains}

pub returns-in_err-room : goal.returns-in_err-room
returns-in_err-room c =
    let none : c.from_residual.result ≡ None = search rules in
    none ∙ sym (greatest_gap-nil c.args.params.now c.args.placements.now c.in_err-room.ensures.value)

pub loop-cycle-init : goal.loop-cycle-init
loop-cycle-init c =
    let moved : IsPermutation c.args.placements.now c.sort_unstable_by_key.new.self = subst (λ ps. IsPermutation ps c.sort_unstable_by_key.new.self) c.copy_from_slice.ensures.after c.sort_unstable_by_key.ensures.permutation in
    record {
      moved = moved;
      rising = AreRising-from c.args.params.now c.args.placements.now c.sort_unstable_by_key.new.self c.macroticks_per_cycle-cycle_length.result c.slot_macroticks-slot_length.result
          c.macroticks_per_cycle-cycle_length.ensures.value c.macroticks_per_cycle-cycle_length.ensures.sum c.slot_macroticks-slot_length.ensures.value c.slot_macroticks-slot_length.ensures.range c.requires.fits moved
          (IsNonDecreasingBy-from_sort_by_key (λ q. q.slot) c.sort_unstable_by_key.new.self c.sort_unstable_by_key.ensures.sorted (λ a r g k. search rules));
      sees = Sees-none c.args.params.now c.sort_unstable_by_key.new.self;
    }

pub overflow_sub-moment : goal.overflow_sub-moment
overflow_sub-moment c =
    let fits = fits_at c.args.params.now c.sort_unstable_by_key.new.self c.loop-placement.placement-index c.placement-item.result c.loop-cycle.invariant.rising (omega arith) c.placement-item.is in
    omega (arith, c.get.ensures.value, fits.from_one)

pub overflow_mul-moment-then-contains : goal.overflow_mul-moment-then-contains
overflow_mul-moment-then-contains c =
    let fits = fits_at c.args.params.now c.sort_unstable_by_key.new.self c.loop-placement.placement-index c.placement-item.result c.loop-cycle.invariant.rising (omega arith) c.placement-item.is in
    slot_fits c.args.params.now c.placement-item.result c.macroticks_per_cycle-cycle_length.result c.slot_macroticks-slot_length.result c.get.result c.loop-cycle.invariant.rising fits
    c.macroticks_per_cycle-cycle_length.ensures.value c.macroticks_per_cycle-cycle_length.ensures.range c.slot_macroticks-slot_length.ensures.value c.get.ensures.value

pub overflow_add-moment : goal.overflow_add-moment
overflow_add-moment c =
    let fits = fits_at c.args.params.now c.sort_unstable_by_key.new.self c.loop-placement.placement-index c.placement-item.result c.loop-cycle.invariant.rising (omega arith) c.placement-item.is in
    moment_fits c.args.params.now c.placement-item.result c.loop-cycle.cycle c.macroticks_per_cycle-cycle_length.result c.slot_macroticks-slot_length.result c.get.result c.loop-cycle.invariant.rising fits (omega arith)
    c.macroticks_per_cycle-cycle_length.ensures.value c.macroticks_per_cycle-cycle_length.ensures.range c.slot_macroticks-slot_length.ensures.value c.get.ensures.value

pub next-requires : goal.next-requires
next-requires c =
    Sees-last c.args.params.now c.sort_unstable_by_key.new.self c.loop-cycle.cycle c.loop-placement.placement-index _ c.placement-item.result c.loop-placement.moments c.loop-cycle.invariant.rising (omega arith) c.placement-item.is
    (moment_at-is c.args.params.now c.loop-cycle.cycle c.macroticks_per_cycle-cycle_length.result c.slot_macroticks-slot_length.result c.placement-item.result.slot c.get.result
    c.macroticks_per_cycle-cycle_length.ensures.value c.slot_macroticks-slot_length.ensures.value c.get.ensures.value)
    c.loop-placement.invariant

pub loop-placement-preserved : goal.loop-placement-preserved
loop-placement-preserved c = elim c.if-contains.branch [
  | then-contains w ↦
      subst (Sees c.args.params.now c.sort_unstable_by_key.new.self c.loop-cycle.cycle (c.loop-placement.placement-index + 1)) (sym (w.moments-is ∙ ap Some w.next.ensures))
      (Sees-more c.args.params.now c.sort_unstable_by_key.new.self c.loop-cycle.cycle c.loop-placement.placement-index _ c.placement-item.result c.loop-placement.moments c.loop-cycle.invariant.rising (omega arith) c.placement-item.is
      (moment_at-is c.args.params.now c.loop-cycle.cycle c.macroticks_per_cycle-cycle_length.result c.slot_macroticks-slot_length.result c.placement-item.result.slot w.get.result
      c.macroticks_per_cycle-cycle_length.ensures.value c.slot_macroticks-slot_length.ensures.value w.get.ensures.value)
      (sym c.contains.ensures ∙ w.if-contains.true) c.loop-placement.invariant)
  | else-contains w ↦
      subst (Sees c.args.params.now c.sort_unstable_by_key.new.self c.loop-cycle.cycle (c.loop-placement.placement-index + 1)) (sym w.moments-is)
      (Sees-skip c.args.params.now c.sort_unstable_by_key.new.self c.loop-cycle.cycle c.loop-placement.placement-index c.placement-item.result c.loop-placement.moments (omega arith) c.placement-item.is
      (sym c.contains.ensures ∙ w.if-contains.false) c.loop-placement.invariant)
]

pub loop-cycle-preserved : goal.loop-cycle-preserved
loop-cycle-preserved c = record {
  moved = c.loop-cycle.invariant.moved;
  rising = c.loop-cycle.invariant.rising;
  sees = Sees-cycle c.args.params.now c.sort_unstable_by_key.new.self c.loop-cycle.cycle c.loop-placement.placement-index c.loop-placement.moments (omega arith) c.loop-placement.invariant;
}

pub returns-in_err-moments : goal.returns-in_err-moments
returns-in_err-moments c =
    let none : c.from_residual-in_err-moments.result ≡ None = search rules in
    none
    ∙ sym (Sees-nothing c.args.params.now c.args.placements.now c.sort_unstable_by_key.new.self c.loop-cycle.invariant.rising c.loop-cycle.invariant.moved
    (Sees-end c.args.params.now c.sort_unstable_by_key.new.self c.loop-cycle.cycle c.loop-cycle.moments None (omega arith) c.in_err-moments.was c.loop-cycle.invariant.sees))

pub greatest_gap-requires : goal.greatest_gap-requires
greatest_gap-requires c =
    let inside = Sees-inside c.args.params.now c.sort_unstable_by_key.new.self c.in_ok-moments.field-0 c.loop-cycle.invariant.rising
    (Sees-end c.args.params.now c.sort_unstable_by_key.new.self c.loop-cycle.cycle c.loop-cycle.moments (Some c.in_ok-moments.field-0) (omega arith) c.in_ok-moments.was c.loop-cycle.invariant.sees) in
    let ring : c.cycles-cycles.result * c.macroticks_per_cycle-cycle_length.result ≡ c.args.params.now.cycles * c.args.params.now.macroticks_per_cycle =
    λ i. c.cycles-cycles.ensures.value i * c.macroticks_per_cycle-cycle_length.ensures.value i in
    (inside.0, omega (arith, inside.1, ring))

pub returns : goal.returns
returns c =
    let is = c.macroticks_per_cycle-cycle_length.ensures.value in
    let many = c.cycles-cycles.ensures.value in
    let m = c.in_ok-moments.field-0 in
    ap Some (c.greatest_gap.ensures ∙ (λ i. max m.step ((many i * is i - m.last) + m.first)))
    ∙ sym (Sees-greatest c.args.params.now c.args.placements.now c.sort_unstable_by_key.new.self m c.loop-cycle.invariant.moved c.loop-cycle.invariant.rising
    (Sees-end c.args.params.now c.sort_unstable_by_key.new.self c.loop-cycle.cycle c.loop-cycle.moments (Some m) (omega arith) c.in_ok-moments.was c.loop-cycle.invariant.sees))
