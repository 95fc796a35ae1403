use Rattle.std.proofs.Common.{◌∙◌}
use Rattle.fr_page.proofs.Pieces.{one_more}
use Rattle.fr_page.proofs.Part.bytes.Goals as goal

pub loop-piece-preserved : goal.loop-piece-preserved
loop-piece-preserved c =
    c.in_ok-extend_from_slice.ensures.items
    ∙ one_more c.pieces-piece-items.result.now c.loop-piece.piece-index _ c.loop-piece-test.true c.loop-piece.invariant c.as_bytes.ensures.value c.text.ensures
