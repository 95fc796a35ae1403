use Rattle.std.proofs.Common.{rules}
use Rattle.sqlite.specs.Held.{state}
use Rattle.fr_tables.specs.Changes.{tables_of}
use Rattle.fr_store.proofs.ReadingLemmas.{reads_ok}
use Rattle.fr_store.proofs.ViewLemmas.{level_told}
use Rattle.fr_store.proofs.page.view.level_of.Goals as goal

pub returns : goal.returns
returns g c = record {
  told = λ clean was. let old = state g.S.Store c.args.conn.now in
      let listed = c.in_ok-rows.ensures.does clean was in
      reads_ok _ _ old (state g.S.Store c.one.new.conn) listed.1
      (λ found read cluster b stands. level_told (tables_of old) cluster b stands c.args.variant.now c.in_ok-rows.rows.items found listed.0 (rw c.as_slice.ensures.value at read))
      c.first_level.result c.first_level.ensures.level;
  refused = search rules;
  spares = search rules;
}
