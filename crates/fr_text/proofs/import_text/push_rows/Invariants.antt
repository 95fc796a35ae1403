use Rattle.std.proofs.Common.{◌≡◌, ◌++◌}
use Rattle.fr_base.specs.ImportRows.{rows_from, up_to_refused}
use Rattle.fr_text.proofs.import_text.push_rows.Given as goal

-- the rows so far, and those that the records left are
abbrev pub invariant-loop-line : goal.invariant-loop-line
invariant-loop-line l = l.rows ++ up_to_refused (rows_from l.params l.header l.line l.records) ≡ l.fn.rows ++ up_to_refused (rows_from l.params l.header 2 l.fn.records)
