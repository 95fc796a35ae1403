use Rattle.std.proofs.Common.{◌∙◌, ap, map}
use Rattle.fr_tables.specs.Changes.{tables_of}
use Rattle.fr_store.specs.Reading.{name_shown}
use Rattle.fr_store.proofs.CallLemmas.{refused_or, seen}
use Rattle.fr_store.proofs.FlatLemmas.{suppliers_named}
use Rattle.fr_store.proofs.ReadingLemmas.{reads_if}
use Rattle.fr_store.proofs.applying.flat.suppliers.Goals as goal

pub returns : goal.returns
returns g c = record {
  same_reference = c.by_name_inside.ensures.same_reference;
  does = λ clean was.
      let old = seen g.S.Store c.args.tx.now in
      let listed = c.in_ok-rows.ensures.does clean was in
      reads_if _ _ old (seen g.S.Store c.by_name_inside.new.tx) listed.1
      (λ found named. suppliers_named (tables_of old) c.in_ok-rows.rows.items found.items listed.0 (named ∙ ap (map name_shown) c.as_slice.ensures.value))
      c.names_of.result _ c.ok_or.result c.ok_or.ensures.value c.names_of.ensures;
  refused = refused_or c.names_of.result c.ok_or.result c.ok_or.ensures.value;
  survives = c.by_name_inside.ensures.survives;
}
