use Rattle.std.proofs.Common.{rules, ◌≡◌, ◌∙◌, None, Some, ap, sym, subst, option_map}
use Rattle.sqlite.specs.Held.{state}
use Rattle.fr_world.specs.Pages.{IsKept, rows_data}
use Rattle.fr_tables.specs.Changes.{tables_of}
use Rattle.fr_base.specs.declared.params.Params.{Params}
use Rattle.fr_store.specs.StandsFor.{HoldsRows}
use Rattle.fr_store.specs.Paging.{TellsRows, page_of}
use Rattle.fr_store.proofs.PageLemmas.{none_told, page_told}
use Rattle.fr_store.proofs.store.Store.page.Goals as goal

pub returns-in_default-clause-tells : goal.returns-in_default-clause-tells
returns-in_default-clause-tells g c = record {
  told = λ clean cluster b stands same. let tables = tables_of (state g.S.Store c.args.self.now.conn) in
      let params = c.params-params.result in
      let told = subst (λ o. TellsRows params c.args.supplier.now c.args.variant.now tables (option_map rows_data o)) c.in_default.is (c.in_ok-rows.ensures.reads.told clean stands.has).0 in
      subst (λ p. None ≡ page_of p b c.args.supplier.now c.args.variant.now) c.params-params.ensures.value
      (none_told params c.args.supplier.now c.args.variant.now tables told b (subst (λ n. HoldsRows tables n b) (same ∙ ap (λ (p : Params). p.cycles) (sym c.params-params.ensures.value)) stands.for.rows));
  config = search rules;
  refused = search rules;
  stays = search rules;
  spares = search rules;
}

pub returns-in-Ok-Some-clause-tells : goal.returns-in-Ok-Some-clause-tells
returns-in-Ok-Some-clause-tells g c = record {
  told = λ clean cluster b stands same. let tables = tables_of (state g.S.Store c.args.self.now.conn) in
      let params = c.params-params.result in
      let rows = c.in-Some.rows in
      let told = subst (λ o. TellsRows params c.args.supplier.now c.args.variant.now tables (option_map rows_data o)) c.in-Some.is (c.in_ok-rows.ensures.reads.told clean stands.has).0 in
      let is : c.in-Ok-Some.page ≡ rows_data rows = search rules in
      let kept : IsKept (rows_data rows) = search rules in
      subst (λ p. Some c.in-Ok-Some.page ≡ page_of p b c.args.supplier.now c.args.variant.now) c.params-params.ensures.value
      (page_told params c.args.supplier.now c.args.variant.now tables (rows_data rows) c.in-Ok-Some.page told is kept b
      (subst (λ n. HoldsRows tables n b) (same ∙ ap (λ (p : Params). p.cycles) (sym c.params-params.ensures.value)) stands.for.rows));
  config = search rules;
  refused = search rules;
  stays = search rules;
  spares = search rules;
}
