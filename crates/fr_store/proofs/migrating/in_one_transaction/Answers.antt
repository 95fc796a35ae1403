use Rattle.std.proofs.Common.{rules, ◌≡◌, arith, ap, sym, subst}
use Rattle.sqlite.specs.Held.{state}
use Rattle.sqlite.specs.State.{HasCleanDisk, Survives}
use Rattle.fr_tables.specs.SchemaNumbers.{HasNumber, old_schema_number}
use Rattle.fr_tables.specs.Tables.{HasOldTables}
use Rattle.fr_store.specs.Before.{LeavesMigrated}
use Rattle.fr_store.specs.Reading.{Stands}
use Rattle.fr_store.specs.Store.{IsOpenable}
use Rattle.fr_store.proofs.AgainLemmas.{still_stands}
use Rattle.fr_store.proofs.BeforeLemmas.{still_before}
use Rattle.fr_store.specs.Settled.{is_left}
use Rattle.fr_store.proofs.CommitLemmas.{begun_inside, leaves}
use Rattle.fr_store.proofs.migrating.in_one_transaction.Goals as goal

pub returns-in_err-commit : goal.returns-in_err-commit
returns-in_err-commit g c =
    let old = state g.S.Store c.args.conn.now in
    let begun = state g.S.Store c.transaction-tx.result.conn.now in
    let mid = state g.S.Store c.change_schema.new.tx.conn.now in
    let end = c.commit.new.self.0 in
    let same : end ≡ c.conn-2-1.given.0 = search rules in
    let inside = begun_inside g.S.Store c.args.conn.now c.transaction-tx.result.conn.now c.transaction-tx.ensures.begun in
    let first : begun.now ≡ old.now = ap (λ h. (state g.S.Store h).now) c.transaction-tx.ensures.begun in
    record {
      migrated = search rules;
      opens = search rules;
      committed = search rules;
      undone = search rules;
      refused = search rules;
      autocommit = search rules;
      survives = subst (λ h. Survives old (state g.S.Store h) (LeavesMigrated old)) same
          (leaves g.S.Store c.args.conn.now c.transaction-tx.result.conn.now c.transaction-tx.ensures.begun (LeavesMigrated old) mid (state g.S.Store end)
          (λ clean db is cluster b stands. is_left mid cluster b db is (c.in_ok-change_schema.ensures.migrated.does clean inside cluster b (still_before old begun cluster b first stands))) c.change_schema.ensures.migrated.survives c.commit.ensures.survives);
    }

pub returns : goal.returns
returns g c =
    let old = state g.S.Store c.args.conn.now in
    let begun = state g.S.Store c.transaction-tx.result.conn.now in
    let mid = state g.S.Store c.change_schema.new.tx.conn.now in
    let end = c.commit.new.self.0 in
    let same : end ≡ c.conn-2-1.given.0 = search rules in
    let inside = begun_inside g.S.Store c.args.conn.now c.transaction-tx.result.conn.now c.transaction-tx.ensures.begun in
    let first : begun.now ≡ old.now = ap (λ h. (state g.S.Store h).now) c.transaction-tx.ensures.begun in
    record {
      migrated = λ clean cluster b stands.
          let late : HasCleanDisk (state g.S.Store end) = search rules in
          let clean_mid : HasCleanDisk mid = omega (arith, c.commit.ensures.survives.clean) in
          let done = c.in_ok-change_schema.ensures.migrated.does clean_mid inside cluster b (still_before old begun cluster b first stands) in
          subst (λ h. Stands (state g.S.Store h) cluster b) same (still_stands mid (state g.S.Store end) cluster b (c.in_ok-commit.ensures.ok late).1.now_is done);
      opens = λ clean has number.
          let late : HasCleanDisk (state g.S.Store end) = search rules in
          let clean_mid : HasCleanDisk mid = omega (arith, c.commit.ensures.survives.clean) in
          let done = c.in_ok-change_schema.ensures.opens clean_mid inside (subst HasOldTables (sym first) has) (subst (λ d. HasNumber d old_schema_number) (sym first) number) in
          subst (λ h. IsOpenable (state g.S.Store h).now) same (subst IsOpenable (sym (c.in_ok-commit.ensures.ok late).1.now_is) done);
      committed = search rules;
      undone = search rules;
      refused = search rules;
      autocommit = search rules;
      survives = subst (λ h. Survives old (state g.S.Store h) (LeavesMigrated old)) same
          (leaves g.S.Store c.args.conn.now c.transaction-tx.result.conn.now c.transaction-tx.ensures.begun (LeavesMigrated old) mid (state g.S.Store end)
          (λ clean db is cluster b stands. is_left mid cluster b db is (c.in_ok-change_schema.ensures.migrated.does clean inside cluster b (still_before old begun cluster b first stands))) c.change_schema.ensures.migrated.survives c.commit.ensures.survives);
    }
