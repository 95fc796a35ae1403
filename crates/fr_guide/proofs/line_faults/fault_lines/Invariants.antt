use Rattle.std.proofs.Common.{◌≡◌, take}
use Rattle.fr_guide.proofs.line_faults.fault_lines.Given as goal
use Rattle.fr_guide.specs.Faults.{all_lines}

-- the faults of the lines up to here
abbrev pub invariant-loop-line : goal.invariant-loop-line
invariant-loop-line l = l.text.items ≡ all_lines (take l.line-index l.told)
