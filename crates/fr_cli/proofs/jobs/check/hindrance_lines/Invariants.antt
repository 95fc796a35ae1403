use Rattle.std.proofs.Common.{◌≡◌, take}
use Rattle.fr_cli.proofs.jobs.check.hindrance_lines.Given as goal
use Rattle.fr_cli.specs.Checking.{hindrance_lines_of}

-- the lines of what was found up to here
abbrev pub invariant-loop-hindrance : goal.invariant-loop-hindrance
invariant-loop-hindrance l = l.text.items ≡ hindrance_lines_of (take l.hindrance-index l.found)
