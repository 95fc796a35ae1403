use Rattle.std.proofs.Common.{◌+◌, ◌∙◌, ◌++◌, [], ◌∷◌, take, sym, ap}
use Rattle.std.proofs.lemmas.List.{take_more}
use Rattle.fr_office.specs.Shown.{node_of}
use Rattle.std.proofs.Common.{map}
use Rattle.fr_office.proofs.RegisterReplies.{nodes-more}
use Rattle.fr_world.proofs.ReadLaws.{reads_then}
use Rattle.fr_office.proofs.queries.nodes.gather_nodes.Goals as goal

pub loop-supplier-preserved : goal.loop-supplier-preserved
loop-supplier-preserved g c =
    let records = g.R.Records in
    let i = c.loop-supplier.supplier-index in
    let suppliers = c.args.suppliers.now in
    let s = c.supplier-item.result in
    record {
      reads = reads_then _ _ _ _ _ _ c.loop-supplier.invariant.reads c.nodes.ensures.reads;
      gathered = λ now.
          nodes-more (records.stands c.args.records.now) (records.stands c.loop-supplier.records) (records.stands c.nodes.new.self)
          s (take i suppliers) (take (i + 1) suppliers) c.loop-supplier.rows c.push_nodes.new.rows c.in_ok-nodes.nodes
          (c.loop-supplier.invariant.gathered (c.nodes.ensures.reads.falls now)) (c.in_ok-nodes.ensures.nodes now)
          (c.in_ok-push_nodes.ensures ∙ ap (λ ns. c.loop-supplier.rows ++ map (node_of s) ns) c.deref.ensures.value)
          (take_more suppliers i s c.loop-supplier-test.true ∙ ap (λ one. take i suppliers ++ one ∷ []) (sym c.supplier-item.is));
    }
