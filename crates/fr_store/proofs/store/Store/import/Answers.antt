use Rattle.std.proofs.Common.{rules, ◌∙◌, option_map, slice_get, ap}
use Rattle.sqlite.specs.Held.{state}
use Rattle.fr_tables.specs.Changes.{tables_of}
use Rattle.fr_store.specs.Reading.{import_shown}
use Rattle.fr_store.proofs.ReadingLemmas.{told_ok}
use Rattle.fr_store.proofs.KeptImportLemmas.{import_told}
use Rattle.fr_store.proofs.store.Store.import.Goals as goal

pub returns : goal.returns
returns g c = record {
  told = λ clean cluster b stands. told_ok _ _ (λ found read. import_told (tables_of (state g.S.Store c.args.self.now.conn)) cluster.params.cycles b stands.for.rows c.args.supplier.now c.args.label.now c.in_ok-rows.rows.items found
      (c.in_ok-rows.ensures.does clean stands.has).0 (read ∙ ap (λ rows. option_map import_shown (slice_get rows 0)) c.as_slice.ensures.value))
      c.first_import.result c.first_import.ensures.import;
  config = search rules;
  refused = search rules;
  stays = search rules;
  spares = search rules;
}
