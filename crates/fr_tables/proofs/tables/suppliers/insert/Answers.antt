use Rattle.std.proofs.Common.{refl}
use Rattle.fr_tables.specs.Rows.{SupplierRow}
use Rattle.fr_tables.proofs.SupplierLemmas.{inserts}
use Rattle.fr_tables.proofs.TableOf.{runs}
use Rattle.fr_tables.proofs.tables.suppliers.insert.Goals as goal

pub returns : goal.returns
returns g c =
    let row : SupplierRow = record { name = c.args.name.now; key = c.args.key.now } in
    runs (inserts row) g.S.Store c.args.tx.now c.execute.new.self c.execute.result _ c.execute.ensures.same_reference c.execute.ensures.runs c.execute.ensures.survives
    (rw (c.params-to_sql.ensures, c.params-to_sql-2.ensures, c.as_str.ensures.value, c.as_str-2.ensures.value) refl)
