use Rattle.fr_picture.specs.FrameTables.{frame_text}
use Rattle.fr_picture.proofs.NumberLemmas.{text_step}
use Rattle.fr_picture.proofs.frame_table.push_frames.Goals as goal

pub loop-place-preserved : goal.loop-place-preserved
loop-place-preserved c =
    text_step frame_text c.args.frames.now c.loop-place.place c.index-frames-place.result _ _ _ c.loop-place-test.true c.index-frames-place.is c.loop-place.invariant
    c.in_ok-push_frame.ensures
