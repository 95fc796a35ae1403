-- The bytes so far are whole lines, which were answered by what was written, and what is begun and left. What is begun has no line's end, and the number
-- of the line behind those.
use Rattle.std.proofs.Common.{◌≡◌, ◌≤◌, ◌+◌, ◌++◌, ℕ, List, length}
use Rattle.std.specs.Str.Lines.{lines}
use Rattle.std.specs.Io.KnownBytes.{Appends}
use Rattle.fr_cli.specs.AnsweredLines.{AnswersEach, AnswersLines}
use Rattle.fr_cli.specs.Numbered.{numbered_lines}
use Rattle.fr_cli.specs.RequestStream.{AreShort, EndsLines}
use Rattle.fr_text.specs.Script.{HasNo, max_line, request_lines}
use Rattle.fr_cli.proofs.jobs.request_stream.answer_piece.Given as goal

abbrev pub invariant-loop-line : goal.invariant-loop-line
invariant-loop-line g l = record {
  same : l.output.writer.ghost_name ≡ l.fn.output.writer.ghost_name;
  falls : g.D.Desk.clean l.desk → g.D.Desk.clean l.fn.desk;
  front : List ℕ;
  split : l.fn.begun.items ++ l.fn.piece ≡ front ++ (l.begun.items ++ l.rest);
  ends : EndsLines front;
  count : l.number ≡ l.fn.number + length (lines front);
  room : l.number + length l.rest ≤ l.fn.number + length l.fn.piece;
  open_ended : HasNo 10 l.begun.items;
  fits : length l.begun.items ≤ max_line;
  short : AreShort (request_lines front);
  written : List ℕ;
  appended : Appends (g.W.Write.contents l.fn.output.writer.now) (g.W.Write.contents l.output.writer.now) written;
  answered : AnswersLines l.fn.numbered (AnswersEach g.D.Desk.clean g.D.Desk.stands l.fn.desk l.desk) (numbered_lines l.fn.number front) written;
}

abbrev pub decreases-loop-line : goal.decreases-loop-line
decreases-loop-line g l = length l.rest
