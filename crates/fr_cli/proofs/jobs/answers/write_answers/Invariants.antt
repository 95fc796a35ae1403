-- The lines so far are answered by what was written, and those that are left have the numbers behind theirs.
use Rattle.std.proofs.Common.{◌≡◌, ◌<◌, ◌+◌, ◌^◌, ◌++◌, ℕ, List, length}
use Rattle.std.specs.Io.KnownBytes.{Appends}
use Rattle.std.specs.Str.Lines.{lines}
use Rattle.fr_cli.specs.AnsweredLines.{AnswersEach, AnswersLines}
use Rattle.fr_cli.specs.Numbered.{numbered_lines}
use Rattle.fr_cli.proofs.jobs.answers.write_answers.Given as goal

abbrev pub invariant-loop-next : goal.invariant-loop-next
invariant-loop-next g l = record {
  same : l.output.writer.ghost_name ≡ l.fn.output.writer.ghost_name;
  falls : g.D.Desk.clean l.desk → g.D.Desk.clean l.fn.desk;
  room : l.number + length (lines l.rest) < 2 ^ 64;
  front : List (ℕ × List ℕ);
  split : numbered_lines l.fn.first l.fn.lines ≡ front ++ numbered_lines l.number l.rest;
  written : List ℕ;
  appended : Appends (g.W.Write.contents l.fn.output.writer.now) (g.W.Write.contents l.output.writer.now) written;
  answered : AnswersLines l.fn.numbered (AnswersEach g.D.Desk.clean g.D.Desk.stands l.fn.desk l.desk) front written;
}

abbrev pub decreases-loop-next : goal.decreases-loop-next
decreases-loop-next g l = length (numbered_lines l.number l.rest)
