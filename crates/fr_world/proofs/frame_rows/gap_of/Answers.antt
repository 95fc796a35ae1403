use Rattle.std.proofs.Common.{◌∙◌, take, sym, ap, subst, arith}
use Rattle.std.specs.Prelude.{All}
use Rattle.fr_base.specs.Moments.{greatest_gap}
use Rattle.fr_base.specs.Sound.{FitsCluster}
use Rattle.fr_world.specs.Pages.{frame_data}
use Rattle.fr_world.proofs.FrameLaws.{gap-none, no_keys, room-size, room-all, room-below, room-more}
use Rattle.fr_world.proofs.frame_rows.gap_of.Goals as goal

pub returns-in_err-room : goal.returns-in_err-room
returns-in_err-room c = c.from_residual.ensures ∙ sym (gap-none c.args.params.now (frame_data c.args.frame.now) (no_keys c.args.frame.now.placements.keys c.in_err-room.ensures.variant.1))

pub bounds-room-count : goal.bounds-room-count
bounds-room-count c =
    let l = c.loop-placement in
    room-below (frame_data c.args.frame.now) l.placement-iterator c.next.new.self l.room l.count c.in-Some.placement.now c.iter-placement-items.ensures.ordered c.requires.few l.invariant.size l.invariant.few c.in-Some.ensures.steps l.invariant.kept

pub listed : goal.listed
listed c =
    let l = c.loop-placement in
    let below = room-below (frame_data c.args.frame.now) l.placement-iterator c.next.new.self l.room l.count c.in-Some.placement.now c.iter-placement-items.ensures.ordered c.requires.few l.invariant.size l.invariant.few c.in-Some.ensures.steps l.invariant.kept in
    omega (arith, below, l.invariant.size)

pub loop-placement-preserved : goal.loop-placement-preserved
loop-placement-preserved c =
    let l = c.loop-placement in
    let below = room-below (frame_data c.args.frame.now) l.placement-iterator c.next.new.self l.room l.count c.in-Some.placement.now c.iter-placement-items.ensures.ordered c.requires.few l.invariant.size l.invariant.few c.in-Some.ensures.steps l.invariant.kept in
    record {
      few = omega (arith, below);
      size = room-size l.room l.count c.in-Some.placement.now l.invariant.size;
      kept = room-more c.args.frame.now.placements.keys l.placement-iterator c.next.new.self l.room l.count c.in-Some.placement.now l.invariant.size below c.in-Some.ensures.steps l.invariant.kept;
    }

pub greatest_gap-requires-clause-fits : goal.greatest_gap-requires-clause-fits
greatest_gap-requires-clause-fits c =
    let l = c.loop-placement in
    subst (All (FitsCluster c.args.params.now)) (sym (room-all (frame_data c.args.frame.now) l.placement-iterator (take l.count l.room) c.iter-placement-items.ensures.ordered c.in-None.ensures.steps.0 l.invariant.kept)) c.requires.fits

pub returns : goal.returns
returns c =
    let l = c.loop-placement in
    c.greatest_gap.ensures
    ∙ ap (greatest_gap c.args.params.now) (room-all (frame_data c.args.frame.now) l.placement-iterator (take l.count l.room) c.iter-placement-items.ensures.ordered c.in-None.ensures.steps.0 l.invariant.kept)
