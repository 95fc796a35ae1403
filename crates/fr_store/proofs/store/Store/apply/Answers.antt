use Rattle.std.proofs.Common.{rules}
use Rattle.sqlite.specs.Held.{state}
use Rattle.fr_world.specs.BookEdits.{all_applied}
use Rattle.fr_store.specs.Settled.{leaves_committed}
use Rattle.fr_store.proofs.CrashLemmas.{adds_edited, one_more}
use Rattle.fr_store.proofs.store.Store.apply.Goals as goal

pub returns-then-not-is_autocommit-clause-left : goal.returns-then-not-is_autocommit-clause-left
returns-then-not-is_autocommit-clause-left g c = record {
  leaves = λ clean cluster b books stands fit left. one_more (state g.S.Store c.args.self.now.conn) cluster (all_applied b c.args.edits.now) books left;
  durable = search rules;
}

pub returns-in_err-after-clause-left : goal.returns-in_err-after-clause-left
returns-in_err-after-clause-left g c = record {
  leaves = λ clean cluster b books stands fit left.
      adds_edited (state g.S.Store c.args.self.now.conn) (state g.S.Store c.in_one_transaction.new.conn) c.args.edits.now c.in_one_transaction.ensures.edited.survives clean cluster b books stands fit left;
  durable = search rules;
}

pub returns-in-Some-clause-left : goal.returns-in-Some-clause-left
returns-in-Some-clause-left g c = record {
  leaves = λ clean cluster b books stands fit left.
      adds_edited (state g.S.Store c.args.self.now.conn) (state g.S.Store c.in_one_transaction.new.conn) c.args.edits.now c.in_one_transaction.ensures.edited.survives clean cluster b books stands fit left;
  durable = λ clean cluster b stands fit.
      let now = state g.S.Store c.in_one_transaction.new.conn in
      let done = c.in_ok-after.ensures.edited in
      let up = done.is_open clean in
      leaves_committed now (λ db may. g.met.S.Store.settled c.in_one_transaction.new.conn.store db up may) (done.committed clean) cluster (all_applied b c.args.edits.now) (done.stands clean cluster b stands fit);
}

pub returns-in_default-clause-left : goal.returns-in_default-clause-left
returns-in_default-clause-left g c = record {
  leaves = λ clean cluster b books stands fit left.
      adds_edited (state g.S.Store c.args.self.now.conn) (state g.S.Store c.in_one_transaction.new.conn) c.args.edits.now c.in_one_transaction.ensures.edited.survives clean cluster b books stands fit left;
  durable = λ clean cluster b stands fit.
      let now = state g.S.Store c.in_one_transaction.new.conn in
      let done = c.in_ok-after.ensures.edited in
      let up = done.is_open clean in
      leaves_committed now (λ db may. g.met.S.Store.settled c.in_one_transaction.new.conn.store db up may) (done.committed clean) cluster (all_applied b c.args.edits.now) (done.stands clean cluster b stands fit);
}
