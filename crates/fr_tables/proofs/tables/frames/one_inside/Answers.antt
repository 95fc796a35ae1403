use Rattle.std.proofs.Common.{refl}
use Rattle.fr_tables.proofs.TheTables.{frame_table}
use Rattle.fr_tables.proofs.FrameLemmas.{by_key}
use Rattle.fr_tables.proofs.FindLemmas.{asks_inside}
use Rattle.fr_tables.proofs.tables.frames.one_inside.Goals as goal

pub returns : goal.returns
returns g c =
    asks_inside frame_table (by_key c.args.key.now) g.S.Store c.args.tx.now c.query_all.new.self c.query_all.result _ c.query_all.ensures.same_reference c.query_all.ensures.ok c.query_all.ensures.err
    c.query_all.ensures.survives (rw (c.params-to_sql.ensures, c.params-to_sql-2.ensures, c.params-to_sql-3.ensures, c.as_str.ensures.value, c.as_str-2.ensures.value, c.as_str-3.ensures.value) refl)
