-- Only empty lines were passed over, and each has its number.
use Rattle.std.proofs.Common.{◌≡◌, ◌+◌, length}
use Rattle.std.specs.Str.Lines.{lines}
use Rattle.fr_cli.specs.Numbered.{numbered_lines}
use Rattle.fr_cli.proofs.streams.numbered_lines.next_request.Given as goal

abbrev pub invariant-loop-line : goal.invariant-loop-line
invariant-loop-line l = record {
  same : numbered_lines l.first l.text ≡ numbered_lines l.number l.rest;
  room : l.number + length (lines l.rest) ≡ l.first + length (lines l.text);
}

abbrev pub decreases-loop-line : goal.decreases-loop-line
decreases-loop-line l = length (lines l.rest)
