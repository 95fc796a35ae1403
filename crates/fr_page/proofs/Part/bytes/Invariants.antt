-- The pieces so far are written.
use Rattle.std.proofs.Common.{◌≡◌, take}
use Rattle.fr_page.proofs.Pieces.{text}
use Rattle.fr_page.proofs.Part.bytes.Given as goal

abbrev pub invariant-loop-piece : goal.invariant-loop-piece
invariant-loop-piece l = l.bytes.items ≡ text (take l.piece-index l.piece-items)
