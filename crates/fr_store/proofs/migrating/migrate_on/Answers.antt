use Rattle.std.proofs.Common.{rules, ◌≡◌, Err, inr, arith, sym, subst}
use Rattle.sqlite.specs.State.{HasCleanDisk}
use Rattle.sqlite.specs.Held.{state}
use Rattle.fr_tables.specs.Schema.{IsOld}
use Rattle.fr_tables.specs.SchemaNumbers.{HasNumber, old_schema_number}
use Rattle.fr_tables.specs.Tables.{HasOldTables}
use Rattle.fr_store.proofs.BeforeLemmas.{still_before, same_after, migration_survives, as_before_then, undone_then, on_error, on_ok, same_fault, only_unavailable_before}
use Rattle.fr_store.proofs.migrating.migrate_on.Goals as goal

pub returns-in_err-expect_number : goal.returns-in_err-expect_number
returns-in_err-expect_number g c = record {
  migrated = search rules;
  committed = search rules;
  opens = search rules;
  before = search rules;
  numbered = search rules;
  told = search rules;
  known = λ clean cluster b stands.
      let is : c.from_residual.result ≡ Err c.in_err-expect_number.field-0.0 = search rules in
      same_fault c.from_residual.result c.in_err-expect_number.field-0.0 is
      (only_unavailable_before (state g.S.Store c.args.conn.now) cluster b c.in_err-expect_number.field-0.0 stands (c.in_err-expect_number.ensures.does.told clean));
  not_made = search rules;
  unharmed = search rules;
  outside = search rules;
  survives = search rules;
}

pub returns-in_err-require_open : goal.returns-in_err-require_open
returns-in_err-require_open g c =
    let old = state g.S.Store c.args.conn.now in
    let mid = state g.S.Store c.expect_number.new.conn in
    let late = state g.S.Store c.require_open.new.conn in
    record {
      migrated = search rules;
      committed = search rules;
      opens = search rules;
      before = search rules;
      numbered = search rules;
      told = search rules;
      known = search rules;
      not_made = search rules;
      unharmed = λ clean has.
          let clean_mid : HasCleanDisk mid = omega (arith, c.require_open.ensures.survives.clean, clean) in
          on_error c.from_residual-in_err-require_open.result (as_before_then old mid late (c.expect_number.ensures.same clean_mid) (c.require_open.ensures.same clean));
      outside = search rules;
      survives = search rules;
    }

pub returns : goal.returns
returns g c =
    let old = state g.S.Store c.args.conn.now in
    let mid = state g.S.Store c.expect_number.new.conn in
    let late = state g.S.Store c.require_open.new.conn in
    let new = state g.S.Store c.in_one_transaction.new.conn in
    let clean_mid : HasCleanDisk late → HasCleanDisk mid = λ clean. omega (arith, c.require_open.ensures.survives.clean, clean) in
    let clean_late : HasCleanDisk new → HasCleanDisk late = λ clean. omega (arith, c.in_one_transaction.ensures.survives.clean, clean) in
    let same : HasCleanDisk late → late.now ≡ old.now = λ clean. same_after old mid late (c.expect_number.ensures.same (clean_mid clean)) (c.in_ok-require_open.ensures.does.unchanged clean) in
    record {
      migrated = λ clean cluster b stands. c.in_one_transaction.ensures.migrated clean cluster b (still_before old late cluster b (same (clean_late clean)) stands);
      committed = search rules;
      opens = λ clean has.
          let is = same (clean_late clean) in
          let number = c.in_ok-expect_number.ensures.does.found (clean_mid (clean_late clean)) (inr has) in
          c.in_one_transaction.ensures.opens clean (subst HasOldTables (sym is) has) (subst (λ d. HasNumber d old_schema_number) (sym is) number);
      before = search rules;
      numbered = λ clean. on_ok c.in_one_transaction.result (c.in_ok-expect_number.ensures.does.found (clean_mid (clean_late clean)));
      told = search rules;
      known = search rules;
      not_made = search rules;
      unharmed = λ clean has.
          let still = clean_late clean in
          let schema : IsOld old.now.schema = search rules in
          undone_then old late new c.in_one_transaction.result (as_before_then old mid late (c.expect_number.ensures.same (clean_mid still)) (c.require_open.ensures.same still))
          (c.in_one_transaction.ensures.undone clean (subst HasOldTables (sym (same still)) (has schema)));
      outside = search rules;
      survives = migration_survives old mid late new c.expect_number.ensures.survives c.require_open.ensures.survives same c.in_one_transaction.ensures.survives;
    }
