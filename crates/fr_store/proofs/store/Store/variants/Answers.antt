use Rattle.std.proofs.Common.{rules, ◌∙◌, map, ap}
use Rattle.sqlite.specs.Held.{state}
use Rattle.fr_tables.specs.Changes.{tables_of}
use Rattle.fr_store.specs.Reading.{variant_shown}
use Rattle.fr_store.proofs.ReadingLemmas.{told_if, variants_told}
use Rattle.fr_store.proofs.store.Store.variants.Goals as goal

pub returns-clause-tells : goal.returns-clause-tells
returns-clause-tells g c = record {
  told = λ clean cluster b stands. told_if _ _ (λ found read. variants_told (tables_of (state g.S.Store c.args.self.now.conn)) cluster.params.cycles b stands.for.rows c.in_ok-rows.rows.items found.items
      (c.in_ok-rows.ensures.does clean stands.has).0 (read ∙ ap (map variant_shown) c.as_slice.ensures.value))
      c.opened_variants.result _ c.ok_or.result c.ok_or.ensures.value c.opened_variants.ensures.shown;
  config = search rules;
  refused = search rules;
  stays = search rules;
  spares = search rules;
}

pub returns-clause-opened : goal.returns-clause-opened
returns-clause-opened g c = told_if _ _ (λ found opened. opened) c.opened_variants.result _ c.ok_or.result c.ok_or.ensures.value c.opened_variants.ensures.opened
