use Rattle.std.proofs.Common.{◌≡◌, take}
use Rattle.fr_cli.proofs.jobs.check.path_lines.Given as goal
use Rattle.fr_cli.specs.Checking.{fault_lines_of}

-- the lines of the faults up to here
abbrev pub invariant-loop-fault : goal.invariant-loop-fault
invariant-loop-fault l = l.text.items ≡ fault_lines_of (take l.fault-index l.faults)
