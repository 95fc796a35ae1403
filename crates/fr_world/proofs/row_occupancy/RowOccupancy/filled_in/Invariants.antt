-- What was found are the cycles that the rows so far fill.
use Rattle.std.proofs.Common.{take}
use Rattle.fr_base.specs.declared.channel.Channel.{Channel}
use Rattle.fr_world.specs.Masks.{AreFilled, word_on}
use Rattle.fr_world.proofs.RowLaws.{pairs}
use Rattle.fr_world.proofs.row_occupancy.RowOccupancy.filled_in.Given as goal

abbrev pub invariant-loop-row : goal.invariant-loop-row
invariant-loop-row l = (x : Channel) → AreFilled (pairs (take l.row-index l.self.rows.items)) l.slot x (word_on x l.filled)
