use Rattle.sqlite.specs.Held.{state}
use Rattle.fr_tables.proofs.MakingLemmas.{renews}
use Rattle.fr_tables.proofs.making.cluster2.Goals as goal

pub returns : goal.returns
returns g c = record {
  same_reference = c.execute.ensures.same_reference;
  does = λ clean inside was.
      renews (state g.S.Store c.args.tx.now.conn.now) (state g.S.Store c.execute.new.self.conn.now) c.execute.result inside was (c.execute.ensures.runs clean inside);
  survives = c.execute.ensures.survives;
}
