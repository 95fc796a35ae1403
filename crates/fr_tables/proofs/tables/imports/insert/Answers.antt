use Rattle.std.proofs.Common.{refl, pos}
use Rattle.fr_tables.specs.Rows.{ImportRow}
use Rattle.fr_tables.proofs.ImportLemmas.{inserts}
use Rattle.fr_tables.proofs.TableOf.{runs}
use Rattle.fr_tables.proofs.tables.imports.insert.Goals as goal

pub returns : goal.returns
returns g c =
    let row : ImportRow = record { supplier = c.args.supplier.now; label = c.args.label.now; variant = c.args.variant.now; body = c.args.body.now; rows = pos c.args.rows } in
    runs (inserts row) g.S.Store c.args.tx.now c.execute.new.self c.execute.result _ c.execute.ensures.same_reference c.execute.ensures.runs c.execute.ensures.survives
    (rw (c.params-to_sql.ensures, c.params-to_sql-2.ensures, c.params-to_sql-3.ensures, c.params-to_sql-4.ensures, c.params-to_sql-5.ensures, c.as_str.ensures.value, c.as_str-2.ensures.value, c.as_str-3.ensures.value, c.as_slice.ensures) refl)
