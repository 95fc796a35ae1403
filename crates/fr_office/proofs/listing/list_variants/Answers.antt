use Rattle.std.proofs.Common.{rules}
use Rattle.fr_office.proofs.ListingLaws.{lists_all, lists_nothing}
use Rattle.fr_world.proofs.ReadLaws.{reads_none, reads_then}
use Rattle.fr_office.proofs.listing.list_variants.Goals as goal

pub returns-then-not-is_known : goal.returns-then-not-is_known
returns-then-not-is_known g c = record {
  reads = search (rules, reads_none);
  told = λ clean.
      lists_nothing (g.R.Records.stands c.args.records.now) c.config.result.now c.config.ensures.config c.args.actor.now (search rules);
}

pub returns : goal.returns
returns g c = record {
  reads = search (rules, reads_then);
  told = λ clean.
      lists_all (g.R.Records.stands c.args.records.now) c.config.result.now c.config.ensures.config c.args.actor.now (search rules) (g.R.Records.stands c.variants.new.self) c.variants.result
      (c.variants.ensures.variants clean);
}
