use Rattle.std.proofs.Common.{refl, subst, take}
use Rattle.sha2.specs.Hashers.{Holds256}
use Rattle.fr_page.proofs.Pieces.{one_more, text}
use Rattle.fr_page.proofs.Part.digest.Goals as goal

pub loop-piece-preserved : goal.loop-piece-preserved
loop-piece-preserved c =
    let pieces = c.pieces-piece-items.result.now in
    let at = c.loop-piece.piece-index in
    subst (Holds256 c.update.new.self) (one_more pieces at _ c.loop-piece-test.true refl c.as_bytes.ensures.value c.text.ensures)
    (c.update.ensures (text (take at pieces)) c.loop-piece.invariant)
