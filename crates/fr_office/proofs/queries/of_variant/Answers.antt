use Rattle.std.proofs.Common.{rules}
use Rattle.fr_office.proofs.ShownReplies.{none-replied, shown-replied}
use Rattle.fr_world.proofs.ReadLaws.{reads_then}
use Rattle.fr_office.proofs.queries.of_variant.Goals as goal

pub returns-then-branch : goal.returns-then-branch
returns-then-branch g c = record {
  reads = search (rules, reads_then);
  told = λ now.
      let stands = g.R.Records.stands in
      shown-replied (stands c.args.records.now) (stands c.is_there.new.records) c.args.actor.now c.args.variant c.args.report.now c.in_ok-is_there.field-0
      (c.in_ok-is_there.ensures.told (c.show.ensures.reads.falls now)) (stands c.show.new.records) c.show.result c.if-branch.true (c.show.ensures.told now);
}

pub returns-else-branch : goal.returns-else-branch
returns-else-branch g c = record {
  reads = search (rules, reads_then);
  told = λ now.
      let stands = g.R.Records.stands in
      none-replied (stands c.args.records.now) (stands c.is_there.new.records) c.args.actor.now c.args.variant c.args.report.now c.in_ok-is_there.field-0
      (c.in_ok-is_there.ensures.told now) c.if-branch.false;
}
