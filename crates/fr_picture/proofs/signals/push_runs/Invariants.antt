use Rattle.std.proofs.Common.{◌≡◌, ◌++◌, take}
use Rattle.std.specs.List.{flat_map}
use Rattle.std.specs.String.{string_bytes}
use Rattle.fr_picture.specs.Strips.{run_text}
use Rattle.fr_picture.proofs.signals.push_runs.Given as goal

-- the text of those up to here
abbrev pub invariant-loop-run : goal.invariant-loop-run
invariant-loop-run l = string_bytes l.out ≡ string_bytes l.initial.out ++ flat_map (λ r. run_text l.row r.start r.length) (take l.run-index l.runs)
