use Rattle.std.proofs.Common.{rules, ◌∙◌, arith, refl, sym, subst}
use Rattle.sqlite.specs.State.{HasCleanDisk}
use Rattle.sqlite.specs.Effect.{Database}
use Rattle.sqlite.specs.Held.{state}
use Rattle.fr_tables.specs.Schema.{IsOurs}
use Rattle.fr_tables.specs.SchemaNumbers.{our_schema_number}
use Rattle.fr_tables.specs.Tables.{AreOrdered, HasTables, tables_in}
use Rattle.fr_tables.proofs.TypedLemmas.{has_tables}
use Rattle.fr_store.specs.Reading.{TellsOpened}
use Rattle.fr_store.specs.Store.{IsRegisterOf}
use Rattle.fr_store.proofs.OpenLemmas.{register_found}
use Rattle.fr_store.proofs.opening.read_config.Goals as goal

pub returns-then-is_ours : goal.returns-then-is_ours
returns-then-is_ours g c =
    let first = state g.S.Store c.expect_number.new.conn in
    let second = state g.S.Store c.config.new.conn in
    let last = state g.S.Store c.require_open.new.conn in
    let late : HasCleanDisk last → HasCleanDisk second = λ clean. omega (arith, c.require_open.ensures.survives.clean, clean) in
    let before : HasCleanDisk last → HasCleanDisk first = λ clean. omega (arith, c.config.ensures.survives.clean, late clean) in
    record {
      does = record {
        formed = search rules;
        ours = search rules;
        stands = λ clean ordered.
            let old = (state g.S.Store c.args.conn.now).now in
            let third = (c.in_ok-require_open.ensures.does.unchanged clean).0 in
            let told = c.config.ensures.same (late clean) third.was_open in
            let said = c.expect_number.ensures.same (before clean) told.0 in
            let ours : IsOurs last.now.schema = search rules in
            let has : HasTables last.now = has_tables last.now (c.schema.ensures.live third.is_open).0 ours (subst (λ (d : Database). AreOrdered d.trees) (sym (third.now_is ∙ told.1 ∙ said.1)) ordered) in
            subst (IsRegisterOf c.in-Some.config) (sym third.now_is)
            (register_found c.in-Some.config old first.now second.now our_schema_number said.1 told.1 refl (subst HasTables third.now_is has) (c.in_ok-expect_number.ensures.does.found (before clean))
            (c.in-Some.ensures.does.cluster (late clean) third.was_open) (c.in-Some.ensures.does.suppliers (late clean) third.was_open));
        variants = λ clean has.
            let third = (c.in_ok-require_open.ensures.does.unchanged clean).0 in
            subst (λ (d : Database). TellsOpened (tables_in d.trees)) (sym third.now_is) (c.in-Some.ensures.does.variants (late clean) third.was_open (subst HasTables third.now_is has));
        is_open = search rules;
        told = search rules;
        not_made = search rules;
      };
      same = search rules;
      autocommit = search rules;
      survives = search rules;
    }
