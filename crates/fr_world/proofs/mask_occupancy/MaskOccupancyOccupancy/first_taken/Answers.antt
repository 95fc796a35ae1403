use Rattle.std.proofs.Common.{◌≡◌, ◌∙◌, option_map, sym, ap}
use Rattle.fr_base.specs.Schedule.{fill}
use Rattle.fr_base.specs.declared.channel.Channels.TheVariants as channels
use Rattle.fr_world.specs.CycleChannels.{earlier}
use Rattle.fr_world.proofs.MarkLaws.{taken_by_channels, taken_of_both}
use Rattle.fr_world.proofs.RowLaws.{shown, first_taken_cell-among}
use Rattle.fr_world.proofs.TakenLaws.{taken_among}
use Rattle.fr_world.proofs.mask_occupancy.MaskOccupancyOccupancy.first_taken.Goals as goal
use Rattle.fr_world.proofs.mask_occupancy.MaskOccupancyOccupancy.first_taken.Goals.{in-A, in-AB, in-B}

pub returns-in_err-taken : goal.returns-in_err-taken
returns-in_err-taken c =
    let ps = c.args.self.now in
    let q = c.args.placement.now in
    let first : c.match-placement.first ≡ taken_among ps q = elim c.match-placement.branch [
      | in-A w ↦ w.first-is ∙ w.first_on-first.ensures ∙ sym (taken_by_channels ps q channels.A w.in-A.is)
      | in-AB w ↦ w.first-is ∙ w.first_of-first.ensures ∙ (λ i. earlier (w.first_on.ensures i) (w.first_on-in-AB.ensures i)) ∙ sym (taken_by_channels ps q channels.AB w.in-AB.is ∙ taken_of_both (fill ps) q.slot q.cycles)
      | in-B w ↦ w.first-is ∙ w.first_on-first-in-B.ensures ∙ sym (taken_by_channels ps q channels.B w.in-B.is)
    ] in
    c.from_residual.ensures ∙ ap (option_map shown) (sym c.in_err-taken.was ∙ first) ∙ first_taken_cell-among ps q

pub returns : goal.returns
returns c =
    let ps = c.args.self.now in
    let q = c.args.placement.now in
    let first : c.match-placement.first ≡ taken_among ps q = elim c.match-placement.branch [
      | in-A w ↦ w.first-is ∙ w.first_on-first.ensures ∙ sym (taken_by_channels ps q channels.A w.in-A.is)
      | in-AB w ↦ w.first-is ∙ w.first_of-first.ensures ∙ (λ i. earlier (w.first_on.ensures i) (w.first_on-in-AB.ensures i)) ∙ sym (taken_by_channels ps q channels.AB w.in-AB.is ∙ taken_of_both (fill ps) q.slot q.cycles)
      | in-B w ↦ w.first-is ∙ w.first_on-first-in-B.ensures ∙ sym (taken_by_channels ps q channels.B w.in-B.is)
    ] in
    ap (option_map shown) (sym c.in_ok-taken.was ∙ first) ∙ first_taken_cell-among ps q
