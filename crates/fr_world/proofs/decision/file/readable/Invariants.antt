use Rattle.std.proofs.Common.{◌≡◌, ◌++◌, drop, take}
use Rattle.fr_base.specs.ImportRows.{up_to_refused}
use Rattle.fr_world.proofs.decision.file.readable.Given as goal

-- No row so far is refused by its own text.
abbrev pub invariant-loop-place : goal.invariant-loop-place
invariant-loop-place l = up_to_refused l.rows ≡ take l.place l.rows ++ up_to_refused (drop l.place l.rows)
