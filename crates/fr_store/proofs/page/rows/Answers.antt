use Rattle.std.proofs.Common.{rules, arith, subst}
use Rattle.sqlite.specs.State.{State, HasCleanDisk}
use Rattle.sqlite.specs.Held.{state}
use Rattle.fr_tables.specs.Tables.{Tables}
use Rattle.fr_tables.specs.Changes.{tables_of}
use Rattle.fr_store.specs.Paging.{TellsView, TellsNodes, TellsGrants}
use Rattle.fr_store.proofs.ChainLemmas.{quiet_first, quiet_told, quiet_spares, quiet_then}
use Rattle.fr_store.proofs.PageLemmas.{rows_told}
use Rattle.fr_store.proofs.page.rows.Goals as goal

pub returns-in_default-clause-reads : goal.returns-in_default-clause-reads
returns-in_default-clause-reads g c = record {
  told = λ clean was. let told = c.in_ok-released.ensures.told clean was in (subst (TellsView c.args.params.now.cycles c.args.variant.now c.args.supplier.now (tables_of (state g.S.Store c.args.conn.now))) c.in_default.is told.0, told.1);
  refused = search rules;
  spares = search rules;
}

pub returns-in_err-own_nodes-clause-reads : goal.returns-in_err-own_nodes-clause-reads
returns-in_err-own_nodes-clause-reads g c = record {
  told = search rules;
  refused = search rules;
  spares = let first = quiet_first (state g.S.Store c.args.conn.now) _ c.view_of.ensures.spares c.in_ok-released.ensures.told in
      quiet_spares _ _ (state g.S.Store c.own_nodes.new.conn) first c.own_nodes.ensures.spares;
}

pub returns-in_err-own_grants-clause-reads : goal.returns-in_err-own_grants-clause-reads
returns-in_err-own_grants-clause-reads g c = record {
  told = search rules;
  refused = search rules;
  spares = let old : State = state g.S.Store c.args.conn.now in
      let first = quiet_first old (state g.S.Store c.view_of.new.conn) c.view_of.ensures.spares c.in_ok-released.ensures.told in
      let its_nodes = λ (t : Tables). TellsNodes c.args.supplier.now t c.in_ok-own_nodes.field-0.keys in
      let second = quiet_then old _ (state g.S.Store c.own_nodes.new.conn) first c.own_nodes.ensures.spares its_nodes c.in_ok-own_nodes.ensures.told in
      quiet_spares old _ (state g.S.Store c.own_grants.new.conn) second c.own_grants.ensures.spares;
}

pub returns-clause-reads : goal.returns-clause-reads
returns-clause-reads g c = record {
  told = λ clean was. let old : State = state g.S.Store c.args.conn.now in
      let first = quiet_first old (state g.S.Store c.view_of.new.conn) c.view_of.ensures.spares c.in_ok-released.ensures.told in
      let its_nodes = λ (t : Tables). TellsNodes c.args.supplier.now t c.in_ok-own_nodes.field-0.keys in
      let its_grants = λ (t : Tables). TellsGrants c.args.variant.now c.args.supplier.now t c.in_ok-own_grants.field-0.entries in
      let second = quiet_then old _ (state g.S.Store c.own_nodes.new.conn) first c.own_nodes.ensures.spares its_nodes c.in_ok-own_nodes.ensures.told in
      let clean_second : HasCleanDisk (state g.S.Store c.own_nodes.new.conn) = omega (arith, c.own_grants.ensures.spares.clean, clean) in
      let clean_first : HasCleanDisk (state g.S.Store c.view_of.new.conn) = omega (arith, c.own_nodes.ensures.spares.clean, clean_second) in
      let view = subst (TellsView c.args.params.now.cycles c.args.variant.now c.args.supplier.now (tables_of old)) c.in-Some.is (c.in_ok-released.ensures.told clean_first was).0 in
      let nodes = quiet_told old _ (state g.S.Store c.own_nodes.new.conn) first c.own_nodes.ensures.spares its_nodes c.in_ok-own_nodes.ensures.told clean_second was in
      let grants = quiet_told old _ (state g.S.Store c.own_grants.new.conn) second c.own_grants.ensures.spares its_grants c.in_ok-own_grants.ensures.told clean was in (
        rows_told c.args.params.now c.args.supplier.now c.args.variant.now (tables_of old) c.in-Some.field-0 c.in_ok-own_nodes.field-0.keys c.in_ok-own_grants.field-0.entries view nodes.0 grants.0,
        grants.1,
      );
  refused = search rules;
  spares = let old : State = state g.S.Store c.args.conn.now in
      let first = quiet_first old (state g.S.Store c.view_of.new.conn) c.view_of.ensures.spares c.in_ok-released.ensures.told in
      let its_nodes = λ (t : Tables). TellsNodes c.args.supplier.now t c.in_ok-own_nodes.field-0.keys in
      let second = quiet_then old _ (state g.S.Store c.own_nodes.new.conn) first c.own_nodes.ensures.spares its_nodes c.in_ok-own_nodes.ensures.told in
      quiet_spares old _ (state g.S.Store c.own_grants.new.conn) second c.own_grants.ensures.spares;
}
