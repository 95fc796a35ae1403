use Rattle.fr_office.proofs.LentPages.{lends-there}
use Rattle.fr_office.proofs.queries.is_there.Goals as goal

pub returns-in-Supplier : goal.returns-in-Supplier
returns-in-Supplier g c = record {
  reads = c.lend.ensures.lends.reads;
  told = λ now.
      lends-there (g.R.Records.stands c.args.records.now) (g.R.Records.stands c.lend.new.self) c.in-Supplier.supplier c.args.variant (g.R.Lender.lent c.lend.new.self) c.lend.result
      c.lend.ensures.there (c.lend.ensures.lends.told now);
}

pub returns-in-Integrator : goal.returns-in-Integrator
returns-in-Integrator g c = record { reads = c.has_variant.ensures.reads; told = λ now. c.has_variant.ensures.has now }
