use Rattle.std.proofs.Common.{rules, ◌+◌, ◌∙◌, ◌++◌, [], ◌∷◌, take, sym, ap}
use Rattle.std.proofs.lemmas.List.{take_more}
use Rattle.fr_office.proofs.ComparedLaws.{compared-all, compared-more, compared-none}
use Rattle.fr_world.proofs.ReadLaws.{reads_none, reads_then}
use Rattle.fr_office.proofs.queries.differences.gather.Goals as goal

pub loop-supplier-init : goal.loop-supplier-init
loop-supplier-init g c = record {
  reads = reads_none _ _ _ _;
  gathered = λ now.
      compared-none (g.R.Records.stands c.args.records.now) c.args.variant c.args.from c.new-old_holders.result.entries c.new-new_holders.result.entries c.new-told.result
      c.new-old_holders.ensures.empty c.new-new_holders.ensures.empty c.new-told.ensures;
}

pub loop-supplier-preserved : goal.loop-supplier-preserved
loop-supplier-preserved g c =
    let records = g.R.Records in
    let i = c.loop-supplier.supplier-index in
    let suppliers = c.args.suppliers.now in
    record {
      reads = reads_then _ _ _ _ _ _ (reads_then _ _ _ _ _ _ c.loop-supplier.invariant.reads c.take_rows.ensures.reads) c.take_rows-in-loop-supplier.ensures.reads;
      gathered = λ now.
          let was = c.take_rows-in-loop-supplier.ensures.reads.falls now in
          compared-more (records.stands c.args.records.now) c.args.variant c.args.from (records.stands c.loop-supplier.records) (records.stands c.take_rows.new.records) (records.stands c.take_rows-in-loop-supplier.new.records)
          c.supplier-item.result (take i suppliers) (take (i + 1) suppliers) c.loop-supplier.old_holders.entries c.loop-supplier.new_holders.entries c.take_rows.new.held.entries c.take_rows-in-loop-supplier.new.held.entries
          c.loop-supplier.told c.push_frame_differences.new.told c.in_ok-old.old c.in_ok-new.new
          (c.loop-supplier.invariant.gathered (c.take_rows.ensures.reads.falls was)) (c.in_ok-old.ensures.told was) (c.in_ok-new.ensures.told now) c.in_ok-push_frame_differences.ensures
          (take_more suppliers i c.supplier-item.result c.loop-supplier-test.true ∙ ap (λ s. take i suppliers ++ s ∷ []) (sym c.supplier-item.is));
    }

pub returns : goal.returns
returns g c = record {
  reads = search (rules, reads_then);
  told = λ now.
      let records = g.R.Records in
      compared-all (records.stands c.args.records.now) c.args.variant c.args.from (records.stands c.loop-supplier.records)
      c.loop-supplier.supplier-index c.args.suppliers.now c.loop-supplier.old_holders.entries c.loop-supplier.new_holders.entries c.loop-supplier.told
      c.as_slice.result.now c.in_ok-behind.field-0 c.loop-supplier-test.false (c.loop-supplier.invariant.gathered now) (c.as_slice.ensures ∙ c.in_ok-grants.ensures) c.in_ok-behind.ensures;
}
