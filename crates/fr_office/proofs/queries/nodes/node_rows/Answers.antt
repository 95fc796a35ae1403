use Rattle.std.proofs.Common.{rules, ◌∙◌}
use Rattle.fr_office.proofs.RegisterReplies.{sees-nodes}
use Rattle.fr_world.proofs.ReadLaws.{reads_then}
use Rattle.fr_office.proofs.queries.nodes.node_rows.Goals as goal

pub returns : goal.returns
returns g c = record {
  reads = search (rules, reads_then);
  told = λ now.
      let records = g.R.Records in
      sees-nodes (records.stands c.args.records.now) (records.stands c.gather_nodes.new.records) c.args.actor.now c.deref.result.now c.gather_nodes.result
      (λ k b stood. c.deref.ensures.value ∙ c.in_ok-suppliers.ensures k b stood) (c.gather_nodes.ensures.told now);
}
