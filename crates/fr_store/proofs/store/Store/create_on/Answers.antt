use Rattle.std.proofs.Common.{rules, ◌≡◌, IsTrue}
use Rattle.sqlite.specs.Held.{state}
use Rattle.sqlite.specs.State.{HasCleanDisk}
use Rattle.fr_base.specs.Book.{opening}
use Rattle.fr_tables.specs.Making.{IsFresh}
use Rattle.fr_store.specs.Reading.{Stands}
use Rattle.fr_store.specs.Settled.{leaves_committed}
use Rattle.fr_store.specs.Store.{IsNewOf}
use Rattle.fr_store.proofs.NewLemmas.{new_left, new_stands}
use Rattle.fr_store.proofs.store.Store.create_on.Goals as goal

pub returns-in-Ok-create-clause-made : goal.returns-in-Ok-create-clause-made
returns-in-Ok-create-clause-made g c =
    let config = c.args.config.now in
    let now = state g.S.Store c.create.new.conn in
    let fresh : IsFresh 0 0 (state g.S.Store c.args.conn).now = search rules in
    let stands : HasCleanDisk now → Stands now config.cluster (opening config) = λ clean.
    let made : IsNewOf config now.now = search rules in
    new_stands config now c.params-formed.ensures.formed.cluster made in
    record {
      made = search rules;
      stands = stands;
      committed = search rules;
      is_open = search rules;
      durable = λ clean.
          let up : IsTrue now.is_open = search rules in
          let committed : now.committed ≡ now.now = search rules in
          leaves_committed now (λ db may. g.met.S.Store.settled c.create.new.conn.store db up may) committed config.cluster (opening config) (stands clean);
      bare = search rules;
      outside = search rules;
      survives = new_left config (state g.S.Store c.args.conn) now c.params-formed.ensures.formed.cluster (search rules);
    }

pub returns-in-Err-clause-refused : goal.returns-in-Err-clause-refused
returns-in-Err-clause-refused g c =
    let fresh : IsFresh 0 0 (state g.S.Store c.args.conn).now = search rules in
    record {
      told = search rules;
      unharmed = search rules;
      outside = search rules;
      survives = new_left c.args.config.now (state g.S.Store c.args.conn) (state g.S.Store c.create.new.conn) c.params-formed.ensures.formed.cluster (search rules);
    }
