use Rattle.std.proofs.Common.{map}
use Rattle.fr_world.specs.Pages.{own_rows_of}
use Rattle.fr_office.proofs.ExportLaws.{IsPushed, each_frame}
use Rattle.fr_office.proofs.queries.exports.push_part.Given as goal

-- the rows so far, with what the frames that are left bring of the part
abbrev pub invariant-loop-name : goal.invariant-loop-name
invariant-loop-name g l =
    let records = g.T.FileRecord.records in
    IsPushed l.rows l.part (each_frame records l.supplier l.name-iterator) l.fn.rows l.fn.part (map records (own_rows_of l.page).frames.rows)
