use Rattle.fr_picture.specs.FrameIndexes.{entry_of}
use Rattle.fr_picture.proofs.NumberLemmas.{row_step}
use Rattle.fr_picture.proofs.frame_index.entries.Goals as goal

pub loop-place-preserved : goal.loop-place-preserved
loop-place-preserved c =
    row_step entry_of c.args.frames.now c.loop-place.place c.index-frames-place.result _ _ _ c.loop-place-test.true c.index-frames-place.is c.entry_of.ensures c.loop-place.invariant
    c.in_ok-push.ensures.items
