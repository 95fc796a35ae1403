use Rattle.std.proofs.lemmas.Result.{on_ok_weaker}
use Rattle.fr_office.proofs.ExportLaws.{takes-part}
use Rattle.fr_office.proofs.queries.exports.PartRowsGathered.take.Goals as goal

pub returns : goal.returns
returns g c = on_ok_weaker c.push_part.result (takes-part g.T.FileRecord.records c.args.page.now c.args.self.now (record { part = c.push_part.new.part; rows = c.push_part.new.rows })) c.push_part.ensures
