use Rattle.std.proofs.Common.{rules, ◌∙◌, map, ap}
use Rattle.sqlite.specs.Held.{state}
use Rattle.fr_tables.specs.Changes.{tables_of}
use Rattle.fr_store.specs.Reading.{name_shown}
use Rattle.fr_store.proofs.ReadingLemmas.{told_if, nodes_told}
use Rattle.fr_store.proofs.store.Store.nodes.Goals as goal

pub returns : goal.returns
returns g c = record {
  told = λ clean cluster b stands. told_if _ _ (λ names read. nodes_told (tables_of (state g.S.Store c.args.self.now.conn)) cluster.params.cycles b stands.for.rows c.args.supplier.now c.in_ok-rows.rows.items names.items
      (c.in_ok-rows.ensures.does clean stands.has).0 (read ∙ ap (map name_shown) c.as_slice.ensures.value))
      c.names_of.result _ c.ok_or.result c.ok_or.ensures.value c.names_of.ensures;
  config = search rules;
  refused = search rules;
  stays = search rules;
  spares = search rules;
}
