use Rattle.std.proofs.Common.{rules, ◌∙◌, Ok, ap, subst, sym}
use Rattle.fr_base.specs.Cluster.{ClusterFile}
use Rattle.fr_base.specs.Queries.{held}
use Rattle.fr_base.specs.declared.answer.ReportRows.TheVariants as shows
use Rattle.fr_base.specs.declared.query.Inventory.{Inventory}
use Rattle.fr_office.specs.Carried.{Replies}
use Rattle.fr_office.specs.Shown.{cluster_told}
use Rattle.fr_office.proofs.RegisterReplies.{holds-cluster, holds-nodes, holds-variants}
use Rattle.fr_world.proofs.ReadLaws.{reads_none, reads_then}
use Rattle.fr_office.proofs.queries.inventory_rows.Goals as goal

pub returns-in_ok-rows-in-Cluster : goal.returns-in_ok-rows-in-Cluster
returns-in_ok-rows-in-Cluster g c = record {
  reads = search (rules, reads_none);
  told = λ now.
      let old = g.R.Records.stands c.args.records.now in
      let actor = c.args.actor.now in
      let rows = c.in_ok-rows-in-Cluster.rows in
      subst (λ (i : Inventory). Replies (λ c b. Ok (held c.params b actor i)) old old (Ok (shows.Cluster rows))) (sym c.in-Cluster.is)
      (holds-cluster old old actor rows (λ k b stood. (stood, c.in_ok-rows-in-Cluster.ensures ∙ ap (λ (f : ClusterFile). cluster_told f actor) (c.config.ensures.config k b stood))));
}

pub returns-in_ok-rows-in-Variants : goal.returns-in_ok-rows-in-Variants
returns-in_ok-rows-in-Variants g c = record {
  reads = search (rules, reads_then);
  told = λ now.
      let old = g.R.Records.stands c.args.records.now in
      let new = g.R.Records.stands c.variants.new.self in
      let actor = c.args.actor.now in
      let rows = c.from.result in
      subst (λ (i : Inventory). Replies (λ c b. Ok (held c.params b actor i)) old new (Ok (shows.Variants rows))) (sym c.in-Variants.is)
      (holds-variants old new actor rows (λ k b stood.
      let told = c.in_ok-rows-in-Variants.ensures.variants now k b stood in
      (told.0, c.from.ensures ∙ told.1)));
}

pub returns-in_ok-rows-in-Nodes : goal.returns-in_ok-rows-in-Nodes
returns-in_ok-rows-in-Nodes g c = record {
  reads = search (rules, reads_then);
  told = λ now.
      let old = g.R.Records.stands c.args.records.now in
      let new = g.R.Records.stands c.node_rows.new.records in
      let actor = c.args.actor.now in
      let rows = c.in_ok-rows-in-Nodes.rows in
      subst (λ (i : Inventory). Replies (λ c b. Ok (held c.params b actor i)) old new (Ok (shows.Nodes rows))) (sym c.in-Nodes.is)
      (holds-nodes old new actor rows (c.in_ok-rows-in-Nodes.ensures.told now));
}
