use Rattle.std.proofs.Common.{refl}
use Rattle.fr_tables.proofs.TheTables.{frame_table}
use Rattle.fr_tables.proofs.FrameLemmas.{by_supplier}
use Rattle.fr_tables.proofs.FindLemmas.{asks}
use Rattle.fr_tables.proofs.tables.frames.of_supplier.Goals as goal

pub returns : goal.returns
returns g c =
    asks frame_table (by_supplier c.args.variant.now c.args.supplier.now) g.S.Store c.args.conn.now c.query_all.new.self c.query_all.result _ c.query_all.ensures.ok c.query_all.ensures.err c.query_all.ensures.survives
    (rw (c.params-to_sql.ensures, c.params-to_sql-2.ensures, c.as_str.ensures.value, c.as_str-2.ensures.value) refl)
