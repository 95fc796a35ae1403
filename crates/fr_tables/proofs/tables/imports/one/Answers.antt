use Rattle.std.proofs.Common.{refl}
use Rattle.fr_tables.proofs.TheTables.{import_table}
use Rattle.fr_tables.proofs.ImportLemmas.{by_label}
use Rattle.fr_tables.proofs.FindLemmas.{asks}
use Rattle.fr_tables.proofs.tables.imports.one.Goals as goal

pub returns : goal.returns
returns g c =
    asks import_table (by_label c.args.supplier.now c.args.label.now) g.S.Store c.args.conn.now c.query_all.new.self c.query_all.result _ c.query_all.ensures.ok c.query_all.ensures.err c.query_all.ensures.survives
    (rw (c.params-to_sql.ensures, c.params-to_sql-2.ensures, c.as_str.ensures.value, c.as_str-2.ensures.value) refl)
