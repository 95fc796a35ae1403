use Rattle.fr_office.proofs.WarmLaws.{reads_inside, warm_tells}
use Rattle.fr_office.proofs.warm.WarmRecords.is_held.Goals as goal

pub returns-clause-held : goal.returns-clause-held
returns-clause-held g c = λ clean.
    let records = g.R.Records in
    warm_tells records.stands _ c.args.self.now c.self.view_is (records.stands c.is_held.new.self) c.is_held.result _ (c.is_held.ensures.held clean)

pub returns-clause-reads : goal.returns-clause-reads
returns-clause-reads g c =
    let records = g.R.Records in
    reads_inside records.clean records.params records.leaves _ c.args.self.now c.self.view_is _ c.is_held.ensures.reads
