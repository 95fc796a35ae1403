use Rattle.std.proofs.lemmas.Result.{on_ok_weaker}
use Rattle.fr_base.specs.Book.{placements_of}
use Rattle.fr_office.proofs.GatherLaws.{takes-rows}
use Rattle.fr_office.proofs.queries.schedule.TriggeringsGathered.take.Goals as goal

pub returns : goal.returns
returns c = on_ok_weaker c.push_page.result (takes-rows (λ p t. placements_of t) c.args.page.now c.args.self.now c.push_page.new.self) c.push_page.ensures.ok
