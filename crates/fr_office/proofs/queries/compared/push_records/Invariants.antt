use Rattle.std.proofs.Common.{◌≡◌, ◌++◌}
use Rattle.std.specs.List.{flat_map}
use Rattle.fr_world.specs.Pages.{own_rows_of}
use Rattle.fr_office.proofs.PageRows.{frames_shown}
use Rattle.fr_office.proofs.queries.compared.push_records.Given as goal

-- the rows so far, and those of the frames that are left
abbrev pub invariant-loop-name : goal.invariant-loop-name
invariant-loop-name g l =
    let records = g.T.FileRecord.records in
    l.rows ++ frames_shown records l.supplier l.name-iterator ≡ l.fn.rows ++ flat_map records (own_rows_of l.page).frames.rows
