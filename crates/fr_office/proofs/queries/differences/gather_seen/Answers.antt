use Rattle.std.proofs.Common.{rules, ◌∙◌}
use Rattle.fr_office.proofs.DifferenceReplies.{gathered-seen}
use Rattle.fr_world.proofs.ReadLaws.{reads_then}
use Rattle.fr_office.proofs.queries.differences.gather_seen.Goals as goal

pub returns : goal.returns
returns g c = record {
  reads = search (rules, reads_then);
  told = λ now.
      let records = g.R.Records in
      gathered-seen (records.stands c.args.records.now) (records.stands c.gather.new.records) c.args.actor.now c.args.variant c.args.from c.deref.result.now c.gather.result
      (λ k b stood. c.deref.ensures.value ∙ c.in_ok-suppliers.ensures k b stood) (c.gather.ensures.told now);
}
