use Rattle.std.proofs.Common.{rules, refl}
use Rattle.sqlite.specs.Held.{state}
use Rattle.fr_store.proofs.BeforeLemmas.{stays_before}
use Rattle.fr_store.proofs.ReadyLemmas.{prepared}
use Rattle.fr_store.proofs.migrating.require_open.Goals as goal

pub returns : goal.returns
returns g c = record {
  does = search rules;
  same = λ clean.
      let old = state g.S.Store c.args.conn.now in
      let new = state g.S.Store c.prepare.new.self in
      stays_before old new (c.is_autocommit-committed.ensures.settled (rw (c.is_autocommit-committed.ensures.value, c.requires) refl))
      (prepared _ old new _ c.prepare.result (c.prepare.ensures.ok clean) (c.prepare.ensures.err clean));
  autocommit = search rules;
  survives = search rules;
}
