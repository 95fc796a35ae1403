use Rattle.std.proofs.Common.{refl, pos}
use Rattle.fr_tables.specs.Rows.{RegisterRow}
use Rattle.fr_tables.proofs.RegisterLemmas.{inserts}
use Rattle.fr_tables.proofs.TableOf.{runs}
use Rattle.fr_tables.proofs.tables.register.insert.Goals as goal

pub returns : goal.returns
returns g c =
    let row : RegisterRow = record { schema = pos c.args.schema } in
    runs (inserts row) g.S.Store c.args.tx.now c.execute.new.self c.execute.result _ c.execute.ensures.same_reference c.execute.ensures.runs c.execute.ensures.survives
    (rw c.params-to_sql.ensures refl)
