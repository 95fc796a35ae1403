use Rattle.std.proofs.Common.{rules, ◌+◌, ◌∙◌, ◌++◌, [], ◌∷◌, take, sym, ap}
use Rattle.std.proofs.lemmas.List.{take_more}
use Rattle.fr_office.proofs.GatherLaws.{gathered-all, gathered-more, gathered-none}
use Rattle.fr_office.proofs.LentPages.{finds-lent}
use Rattle.fr_world.proofs.ReadLaws.{reads_none, reads_then}
use Rattle.fr_office.proofs.queries.gathered.gather.Goals as goal

pub loop-supplier-init : goal.loop-supplier-init
loop-supplier-init g c = record {
  reads = reads_none _ _ _ _;
  so_far = λ now. gathered-none g.G.Gathered.gathered c.args.gathered (g.R.Records.stands c.args.records.now) c.args.variant c.requires;
}

pub loop-supplier-preserved : goal.loop-supplier-preserved
loop-supplier-preserved g c =
    let records = g.R.Records in
    let i = c.loop-supplier.supplier-index in
    let suppliers = c.args.suppliers.now in
    record {
      reads = reads_then _ _ _ _ _ _ c.loop-supplier.invariant.reads c.find_page.ensures.finds.reads;
      so_far = λ now.
          gathered-more g.G.Gathered.gathered c.args.gathered (records.stands c.args.records.now) c.args.variant (records.stands c.loop-supplier.records) (records.stands c.find_page.new.records)
          c.supplier-item.result (take i suppliers) (take (i + 1) suppliers) c.lent.result.now c.loop-supplier.gathered c.take.new.self
          (c.loop-supplier.invariant.so_far (c.find_page.ensures.finds.reads.falls now)) (finds-lent _ _ _ _ _ _ c.lent.ensures (c.in_ok-find_page.ensures.finds.told now)) c.in_ok-take.ensures
          (take_more suppliers i c.supplier-item.result c.loop-supplier-test.true ∙ ap (λ s. take i suppliers ++ s ∷ []) (sym c.supplier-item.is));
    }

pub returns : goal.returns
returns g c = record {
  reads = search (rules, reads_then);
  told = λ now.
      let records = g.R.Records in
      gathered-all g.G.Gathered.gathered c.args.gathered (records.stands c.args.records.now) c.args.variant (records.stands c.loop-supplier.records)
      c.loop-supplier.supplier-index c.args.suppliers.now c.loop-supplier.gathered c.loop-supplier-test.false (c.loop-supplier.invariant.so_far now);
}
