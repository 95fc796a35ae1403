use Rattle.std.proofs.Common.{◌∙◌, ap, sym, slice_get}
use Rattle.fr_tables.specs.Changes.{tables_of}
use Rattle.fr_store.proofs.CallLemmas.{refused_or, seen}
use Rattle.fr_store.proofs.ReadingLemmas.{both_if, reads_if}
use Rattle.fr_store.proofs.OwningLemmas.{origin_told}
use Rattle.fr_store.proofs.applying.origin.read_origin.Goals as goal

pub returns : goal.returns
returns g c = record {
  same_reference = c.one_inside.ensures.same_reference;
  does = λ clean was.
      let old = seen g.S.Store c.args.tx.now in
      let listed = c.in_ok-rows.ensures.does clean was in
      reads_if _ _ old (seen g.S.Store c.one_inside.new.tx) listed.1
      (λ origin read. origin_told c.args.variant.now (tables_of old) c.in_ok-rows.rows.items c.in-Some.row.now origin (sym (c.in-Some.ensures.value ∙ ap (λ rows. slice_get rows 0) c.as_slice.ensures.value)) listed.0 read.0 read.1)
      c.origin_of.result _ c.ok_or.result c.ok_or.ensures.value (both_if _ _ c.origin_of.result c.origin_of.ensures.parent c.origin_of.ensures.overlay);
  refused = refused_or c.origin_of.result c.ok_or.result c.ok_or.ensures.value;
  survives = c.one_inside.ensures.survives;
}
