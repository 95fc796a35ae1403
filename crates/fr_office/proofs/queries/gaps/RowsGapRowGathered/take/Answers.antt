use Rattle.std.proofs.lemmas.Result.{on_ok_weaker}
use Rattle.fr_base.specs.Queries.{gaps_of}
use Rattle.fr_office.proofs.GatherLaws.{takes-rows}
use Rattle.fr_office.proofs.queries.gaps.RowsGapRowGathered.take.Goals as goal

pub returns : goal.returns
returns c = on_ok_weaker c.push_gaps.result (takes-rows gaps_of c.args.page.now c.args.self.now c.push_gaps.new.rows) c.push_gaps.ensures
