use Rattle.std.proofs.Common.{rules, ◌≡◌, arith, subst, sym}
use Rattle.sqlite.specs.Effect.{Database}
use Rattle.sqlite.specs.Held.{state}
use Rattle.sqlite.specs.State.{HasCleanDisk, Survives}
use Rattle.fr_world.specs.BookEdits.{all_applied}
use Rattle.fr_store.specs.Applying.{LeavesAll}
use Rattle.fr_store.specs.Reading.{Stands}
use Rattle.fr_store.specs.Sparing.{HasSameFrames}
use Rattle.fr_tables.specs.Changes.{tables_of}
use Rattle.fr_tables.specs.Tables.{HasTables, tables_in}
use Rattle.fr_store.proofs.CommitLemmas.{begun_inside, begun_now, begun_stands, crash_leaves}
use Rattle.fr_store.proofs.AgainLemmas.{still_stands}
use Rattle.fr_store.proofs.apply.in_one_transaction.Goals as goal

pub returns-in_err-commit-clause-edited : goal.returns-in_err-commit-clause-edited
returns-in_err-commit-clause-edited g c =
    let old = state g.S.Store c.args.conn.now in
    let mid = state g.S.Store c.carry_out_all.new.tx.conn.now in
    let end = c.commit.new.self.0 in
    let same : end ≡ c.conn-2-1.given.0 = search rules in
    let inside = begun_inside g.S.Store c.args.conn.now c.transaction-tx.result.conn.now c.transaction-tx.ensures.begun in
    record {
      stands = search rules;
      spared = search rules;
      committed = search rules;
      is_open = search rules;
      undone = search rules;
      refused = search rules;
      survives = subst (λ h. Survives old (state g.S.Store h) (LeavesAll c.args.edits.now old)) same
          (crash_leaves g.S.Store c.args.conn.now c.transaction-tx.result.conn.now c.transaction-tx.ensures.begun c.args.edits.now mid (state g.S.Store end)
          (λ clean cluster b stands fit. c.in_ok-after.ensures.carried.does clean inside cluster b stands fit) c.carry_out_all.ensures.carried.survives c.commit.ensures.survives);
    }

pub returns-clause-edited : goal.returns-clause-edited
returns-clause-edited g c =
    let old = state g.S.Store c.args.conn.now in
    let mid = state g.S.Store c.carry_out_all.new.tx.conn.now in
    let end = c.commit.new.self.0 in
    let same : end ≡ c.conn-2-1.given.0 = search rules in
    let inside = begun_inside g.S.Store c.args.conn.now c.transaction-tx.result.conn.now c.transaction-tx.ensures.begun in
    record {
      stands = λ clean cluster b stands fit.
          let late : HasCleanDisk (state g.S.Store end) = search rules in
          let clean_mid : HasCleanDisk mid = omega (arith, c.commit.ensures.survives.clean) in
          let carried = c.in_ok-after.ensures.carried.does clean_mid inside cluster b (begun_stands g.S.Store c.args.conn.now c.transaction-tx.result.conn.now c.transaction-tx.ensures.begun cluster b stands) fit in
          subst (λ h. Stands (state g.S.Store h) cluster (all_applied b c.args.edits.now)) same
          (still_stands mid (state g.S.Store end) cluster (all_applied b c.args.edits.now) (c.in_ok-commit.ensures.ok late).1.now_is carried);
      spared = λ clean has none.
          let late : HasCleanDisk (state g.S.Store end) = search rules in
          let clean_mid : HasCleanDisk mid = omega (arith, c.commit.ensures.survives.clean) in
          let first = begun_now g.S.Store c.args.conn.now c.transaction-tx.result.conn.now c.transaction-tx.ensures.begun in
          let spared = c.in_ok-after.ensures.spared none clean_mid inside (subst HasTables (sym first) has) in
          let from = subst (λ (d : Database). HasSameFrames (tables_in d.trees) (tables_of mid)) first spared in
          subst (λ h. HasSameFrames (tables_of old) (tables_of (state g.S.Store h))) same
          (subst (λ (d : Database). HasSameFrames (tables_of old) (tables_in d.trees)) (sym (c.in_ok-commit.ensures.ok late).1.now_is) from);
      committed = search rules;
      is_open = search rules;
      undone = search rules;
      refused = search rules;
      survives = subst (λ h. Survives old (state g.S.Store h) (LeavesAll c.args.edits.now old)) same
          (crash_leaves g.S.Store c.args.conn.now c.transaction-tx.result.conn.now c.transaction-tx.ensures.begun c.args.edits.now mid (state g.S.Store end)
          (λ clean cluster b stands fit. c.in_ok-after.ensures.carried.does clean inside cluster b stands fit) c.carry_out_all.ensures.carried.survives c.commit.ensures.survives);
    }
