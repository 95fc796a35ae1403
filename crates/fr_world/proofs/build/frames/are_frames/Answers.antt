use Rattle.std.proofs.Common.{rules, tests}
use Rattle.fr_world.specs.Building.{IsKeptFrame}
use Rattle.fr_world.specs.Pages.{frame_data, own_rows_of, rows_data}
use Rattle.fr_world.proofs.BuildFrames.{IsLeft-all, IsLeft-next}
use Rattle.fr_world.proofs.build.frames.are_frames.Goals as goal

pub loop-frame-init : goal.loop-frame-init
loop-frame-init c =
    (tt, tt, IsLeft-all (λ f. IsKeptFrame (own_rows_of (rows_data c.args.rows.now)) (frame_data f)) c.args.rows.now.frames.entries c.into_iter-frame-iterator.result (search rules))

pub loop-frame-preserved : goal.loop-frame-preserved
loop-frame-preserved c =
    (tt, tt, IsLeft-next (λ f. IsKeptFrame (own_rows_of (rows_data c.args.rows.now)) (frame_data f)) c.args.rows.now.frames.entries c.loop-frame.frame-iterator c.next.new.self c.in-Some.frame.now (search rules) (search (rules, tests)) c.loop-frame.invariant.2)
