use Rattle.std.proofs.Common.{◌≡◌, take}
use Rattle.fr_tables.proofs.schema.same_tables.Given as goal

abbrev pub invariant-loop-at : goal.invariant-loop-at
invariant-loop-at l = take l.at l.a ≡ take l.at l.b
