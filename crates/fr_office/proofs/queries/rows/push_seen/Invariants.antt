use Rattle.std.proofs.Common.{◌≡◌, ◌++◌, map, take}
use Rattle.fr_office.proofs.queries.rows.push_seen.Given as goal

-- the rows so far
abbrev pub invariant-loop-row : goal.invariant-loop-row
invariant-loop-row g l = l.rows.items ≡ l.fn.rows.items ++ map g.T.KeyedRow.told (take l.row-index l.kind)
