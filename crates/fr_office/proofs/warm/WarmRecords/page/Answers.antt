use Rattle.fr_office.proofs.WarmLaws.{reads_inside, warm_tells}
use Rattle.fr_office.proofs.warm.WarmRecords.page.Goals as goal

pub returns-clause-page : goal.returns-clause-page
returns-clause-page g c = λ clean.
    let records = g.R.Records in
    warm_tells records.stands _ c.args.self.now c.self.view_is (records.stands c.page.new.self) c.page.result _ (c.page.ensures.page clean)

pub returns-clause-reads : goal.returns-clause-reads
returns-clause-reads g c =
    let records = g.R.Records in
    reads_inside records.clean records.params records.leaves _ c.args.self.now c.self.view_is _ c.page.ensures.reads
