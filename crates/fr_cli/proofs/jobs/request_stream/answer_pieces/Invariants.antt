-- Of what was taken from the reader whole lines were answered, and the others are begun. What is begun has no line's end.
use Rattle.std.proofs.Common.{◌≡◌, ◌≤◌, ◌+◌, ◌++◌, ℕ, List, length, vec_len}
use Rattle.std.specs.Io.KnownBytes.{Appends, Consumes}
use Rattle.std.specs.Str.Lines.{lines}
use Rattle.fr_cli.specs.AnsweredLines.{AnswersEach, AnswersLines}
use Rattle.fr_cli.specs.Numbered.{numbered_lines}
use Rattle.fr_cli.specs.RequestStream.{AreShort, EndsLines}
use Rattle.fr_text.specs.Script.{HasNo, max_line, max_script, request_lines}
use Rattle.fr_cli.proofs.jobs.request_stream.answer_pieces.Given as goal

abbrev pub invariant-loop : goal.invariant-loop
invariant-loop g l = record {
  same : l.output.writer.ghost_name ≡ l.fn.output.writer.ghost_name;
  falls : g.D.Desk.clean l.desk → g.D.Desk.clean l.fn.desk;
  front : List ℕ;
  taken : Consumes (g.R.Read.remaining l.initial.reader) (g.R.Read.remaining l.reader) (front ++ l.begun.items);
  room : l.room + length (front ++ l.begun.items) ≡ max_script;
  ends : EndsLines front;
  count : l.number ≡ 1 + length (lines front);
  open_ended : HasNo 10 l.begun.items;
  fits : vec_len l.begun ≤ max_line;
  short : AreShort (request_lines front);
  written : List ℕ;
  appended : Appends (g.W.Write.contents l.fn.output.writer.now) (g.W.Write.contents l.output.writer.now) written;
  answered : AnswersLines l.fn.numbered (AnswersEach g.D.Desk.clean g.D.Desk.stands l.fn.desk l.desk) (numbered_lines 1 front) written;
}
