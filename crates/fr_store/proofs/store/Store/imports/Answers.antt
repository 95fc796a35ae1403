use Rattle.std.proofs.Common.{◌≡◌, length, ◌∙◌, rules}
use Rattle.sqlite.specs.Held.{state}
use Rattle.fr_tables.specs.Changes.{tables_of}
use Rattle.fr_store.proofs.KeptImportLemmas.{imports_told}
use Rattle.fr_store.proofs.store.Store.imports.Goals as goal

pub returns : goal.returns
returns g c = record {
  told = λ clean cluster b stands. let told = imports_told (tables_of (state g.S.Store c.args.self.now.conn)) cluster.params.cycles b stands.for.rows c.args.supplier.now c.in_ok-rows.rows.items (c.in_ok-rows.ensures.does clean stands.has).0 in
      let count : c.len.result ≡ length c.in_ok-rows.rows.items = search rules in count ∙ told;
  config = search rules;
  refused = search rules;
  stays = search rules;
  spares = search rules;
}
