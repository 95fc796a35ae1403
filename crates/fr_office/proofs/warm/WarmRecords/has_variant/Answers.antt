use Rattle.fr_office.proofs.WarmLaws.{reads_inside, warm_tells}
use Rattle.fr_office.proofs.warm.WarmRecords.has_variant.Goals as goal

pub returns-clause-has : goal.returns-clause-has
returns-clause-has g c = λ clean.
    let records = g.R.Records in
    warm_tells records.stands _ c.args.self.now c.self.view_is (records.stands c.has_variant.new.self) c.has_variant.result _ (c.has_variant.ensures.has clean)

pub returns-clause-reads : goal.returns-clause-reads
returns-clause-reads g c =
    let records = g.R.Records in
    reads_inside records.clean records.params records.leaves _ c.args.self.now c.self.view_is _ c.has_variant.ensures.reads
