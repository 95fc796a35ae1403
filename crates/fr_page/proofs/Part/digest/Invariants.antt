-- The hasher holds the pieces so far.
use Rattle.std.proofs.Common.{take}
use Rattle.sha2.specs.Hashers.{Holds256}
use Rattle.fr_page.proofs.Pieces.{text}
use Rattle.fr_page.proofs.Part.digest.Given as goal

abbrev pub invariant-loop-piece : goal.invariant-loop-piece
invariant-loop-piece l = Holds256 l.hasher (text (take l.piece-index l.piece-items))
