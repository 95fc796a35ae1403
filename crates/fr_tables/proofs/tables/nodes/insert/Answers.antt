use Rattle.std.proofs.Common.{refl}
use Rattle.fr_tables.specs.Rows.{NodeRow}
use Rattle.fr_tables.proofs.NodeLemmas.{inserts}
use Rattle.fr_tables.proofs.TableOf.{runs}
use Rattle.fr_tables.proofs.tables.nodes.insert.Goals as goal

pub returns : goal.returns
returns g c =
    let row : NodeRow = record { supplier = c.args.supplier.now; name = c.args.name.now } in
    runs (inserts row) g.S.Store c.args.tx.now c.execute.new.self c.execute.result _ c.execute.ensures.same_reference c.execute.ensures.runs c.execute.ensures.survives
    (rw (c.params-to_sql.ensures, c.params-to_sql-2.ensures, c.as_str.ensures.value, c.as_str-2.ensures.value) refl)
