use Rattle.std.proofs.Common.{rules}
use Rattle.sqlite.specs.Held.{state}
use Rattle.fr_tables.specs.Changes.{tables_of}
use Rattle.fr_store.proofs.ReadingLemmas.{reads_if}
use Rattle.fr_store.proofs.OwnLemmas.{own_grants_told}
use Rattle.fr_store.proofs.page.own_grants.Goals as goal

pub returns : goal.returns
returns g c = record {
  told = λ clean was. let old = state g.S.Store c.args.conn.now in
      let listed = c.in_ok-rows.ensures.does clean was in
      reads_if _ _ old (state g.S.Store c.of_supplier.new.conn) listed.1
      (λ found read cluster b stands x there. own_grants_told (tables_of old) cluster b stands c.args.supplier.now c.args.variant.now x there c.in_ok-rows.rows.items found.entries listed.0
      (rw c.as_slice.ensures.value at read))
      c.grants_of.result _ c.ok_or.result c.ok_or.ensures.value c.grants_of.ensures;
  refused = search rules;
  spares = search rules;
}
