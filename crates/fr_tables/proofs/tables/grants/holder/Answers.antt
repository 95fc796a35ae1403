use Rattle.std.proofs.Common.{refl, pos}
use Rattle.fr_base.specs.Channels.{text_of_channel}
use Rattle.fr_tables.proofs.TheTables.{grant_table}
use Rattle.fr_tables.proofs.GrantLemmas.{by_place}
use Rattle.fr_tables.proofs.FindLemmas.{asks}
use Rattle.fr_tables.proofs.tables.grants.holder.Goals as goal

pub returns : goal.returns
returns g c =
    asks grant_table (by_place c.args.variant.now (pos c.args.slot) (text_of_channel c.args.channel)) g.S.Store c.args.conn.now c.query_all.new.self c.query_all.result _ c.query_all.ensures.ok c.query_all.ensures.err c.query_all.ensures.survives
    (rw (c.params-to_sql.ensures, c.params-to_sql-2.ensures, c.params-to_sql-3.ensures, c.as_str.ensures.value, c.get.ensures.value, c.as_str-2.ensures) refl)
