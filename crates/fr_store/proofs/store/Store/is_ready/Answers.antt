use Rattle.std.proofs.Common.{rules}
use Rattle.sqlite.specs.Held.{state}
use Rattle.fr_store.proofs.ReadyLemmas.{prepared}
use Rattle.fr_store.proofs.store.Store.is_ready.Goals as goal

pub returns-clause-looks : goal.returns-clause-looks
returns-clause-looks g c = record {
  is_open = search rules;
  stays = λ clean. prepared _ (state g.S.Store c.args.self.now.conn) (state g.S.Store c.prepare.new.self) _ c.prepare.result (c.prepare.ensures.ok clean) (c.prepare.ensures.err clean);
  outside = search rules;
  survives = search rules;
}
