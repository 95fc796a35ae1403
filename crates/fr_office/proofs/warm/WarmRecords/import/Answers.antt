use Rattle.fr_office.proofs.WarmLaws.{reads_inside, warm_tells}
use Rattle.fr_office.proofs.warm.WarmRecords.import.Goals as goal

pub returns-clause-import : goal.returns-clause-import
returns-clause-import g c = λ clean.
    let records = g.R.Records in
    warm_tells records.stands _ c.args.self.now c.self.view_is (records.stands c.import.new.self) c.import.result _ (c.import.ensures.import clean)

pub returns-clause-reads : goal.returns-clause-reads
returns-clause-reads g c =
    let records = g.R.Records in
    reads_inside records.clean records.params records.leaves _ c.args.self.now c.self.view_is _ c.import.ensures.reads
