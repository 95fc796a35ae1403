use Rattle.fr_office.proofs.WarmLaws.{reads_inside, warm_tells}
use Rattle.fr_office.proofs.warm.WarmRecords.variants.Goals as goal

pub returns-clause-variants : goal.returns-clause-variants
returns-clause-variants g c = λ clean.
    let records = g.R.Records in
    warm_tells records.stands _ c.args.self.now c.self.view_is (records.stands c.variants.new.self) c.variants.result _ (c.variants.ensures.variants clean)

pub returns-clause-reads : goal.returns-clause-reads
returns-clause-reads g c =
    let records = g.R.Records in
    reads_inside records.clean records.params records.leaves _ c.args.self.now c.self.view_is _ c.variants.ensures.reads
