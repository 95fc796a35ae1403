use Rattle.std.proofs.Common.{◌≡◌, ◌∙◌, None, Some, option_map, is_some, sym, ap, rules, true≢false}
use Rattle.fr_base.specs.Cycles.{cycles_of}
use Rattle.fr_base.specs.Schedule.{fill}
use Rattle.fr_world.specs.CycleChannels.{taken_of}
use Rattle.fr_world.specs.Masks.{first_cycle}
use Rattle.fr_world.proofs.MaskLaws.{cell_in}
use Rattle.fr_world.proofs.MarkLaws.{none_on, some_on, filled_on}
use Rattle.fr_world.proofs.mask_occupancy.MaskOccupancy.first_on.Goals as goal

pub returns-in_err-cycle : goal.returns-in_err-cycle
unfolding first_cycle
returns-in_err-cycle c =
    let q = c.args.placement.now in
    let none : c.from_residual.result ≡ None = search rules in
    none ∙ ap (option_map taken_of) (sym (none_on (fill c.args.self.now) q.slot c.args.channel (cycles_of q.cycles) (sym c.first_cycle.ensures ∙ c.in_err-cycle.was)))

pub returns-in_err-frame : goal.returns-in_err-frame
unfolding first_cycle
returns-in_err-frame c =
    let q = c.args.placement.now in
    let cell = cell_in q.slot c.args.channel c.in_ok-cycle.cycle in
    let there = filled_on (fill c.args.self.now) q.slot c.args.channel (cycles_of q.cycles) c.in_ok-cycle.cycle (sym c.first_cycle.ensures ∙ c.in_ok-cycle.was) in
    let none : fill c.args.self.now cell ≡ None = ap (λ ps. fill ps cell) (sym c.self.view_is) ∙ sym c.frame_in.ensures ∙ c.in_err-frame.was in
    absurd (true≢false (sym there ∙ ap is_some none))

pub returns : goal.returns
unfolding first_cycle
returns c =
    let q = c.args.placement.now in
    let cell = cell_in q.slot c.args.channel c.in_ok-cycle.cycle in
    let sends : fill c.args.self.now cell ≡ Some c.in_ok-frame.frame = ap (λ ps. fill ps cell) (sym c.self.view_is) ∙ sym c.frame_in.ensures ∙ c.in_ok-frame.was in
    ap (option_map taken_of) (sym (some_on (fill c.args.self.now) q.slot c.args.channel (cycles_of q.cycles) c.in_ok-cycle.cycle c.in_ok-frame.frame (sym c.first_cycle.ensures ∙ c.in_ok-cycle.was) sends))
