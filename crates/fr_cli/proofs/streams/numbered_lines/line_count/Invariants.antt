-- The lines so far are counted, and those that are left are all others.
use Rattle.std.proofs.Common.{◌≡◌, ◌+◌, length}
use Rattle.std.specs.Str.Lines.{lines}
use Rattle.fr_cli.proofs.streams.numbered_lines.line_count.Given as goal

abbrev pub invariant-loop-after : goal.invariant-loop-after
invariant-loop-after l = l.count + length (lines l.rest) ≡ length (lines l.text)

abbrev pub decreases-loop-after : goal.decreases-loop-after
decreases-loop-after l = length (lines l.rest)
