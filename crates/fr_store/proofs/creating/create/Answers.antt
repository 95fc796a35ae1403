use Rattle.std.proofs.Common.{rules, ◌≡◌, ap, sym, subst}
use Rattle.sqlite.specs.Effect.{Database}
use Rattle.sqlite.specs.Held.{state}
use Rattle.sqlite.specs.State.{Survives}
use Rattle.fr_tables.specs.Making.{IsFresh}
use Rattle.fr_store.specs.Store.{IsNewOf}
use Rattle.fr_store.specs.StoreFiles.{database_of}
use Rattle.fr_store.proofs.CommitLemmas.{begun_inside, leaves}
use Rattle.fr_store.proofs.NewLemmas.{new_at}
use Rattle.fr_store.proofs.creating.create.Goals as goal

pub returns : goal.returns
returns g c = record {
  made = search rules;
  committed = search rules;
  is_open = search rules;
  undone = search rules;
  autocommit = search rules;
  survives = λ fresh.
      let end = c.commit.new.self.0 in
      let same : end ≡ c.conn-2-1.given.0 = search rules in
      let begun = c.transaction-tx.ensures.begun in
      let inside = begun_inside g.S.Store c.args.conn.now c.transaction-tx.result.conn.now begun in
      let before : IsFresh 0 0 (state g.S.Store c.transaction-tx.result.conn.now).now = subst (λ (d : Database). IsFresh 0 0 d) (sym (ap (λ h. (state g.S.Store h).now) begun)) fresh in
      subst (λ h. Survives (state g.S.Store c.args.conn.now) (state g.S.Store h) (λ db. IsNewOf c.args.config.now (database_of db))) same
      (leaves g.S.Store c.args.conn.now c.transaction-tx.result.conn.now begun (λ db. IsNewOf c.args.config.now (database_of db)) (state g.S.Store c.make_and_fill.new.tx.conn.now) (state g.S.Store end)
      (λ clean db is. new_at c.args.config.now (state g.S.Store c.make_and_fill.new.tx.conn.now) db is (c.in_ok-make_and_fill.ensures.does clean inside before).0) c.make_and_fill.ensures.survives c.commit.ensures.survives);
}
