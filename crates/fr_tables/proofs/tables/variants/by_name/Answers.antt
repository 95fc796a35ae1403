use Rattle.std.proofs.Common.{refl}
use Rattle.fr_tables.proofs.TheTables.{variant_table}
use Rattle.fr_tables.proofs.VariantLemmas.{by_order}
use Rattle.fr_tables.proofs.FindLemmas.{asks}
use Rattle.fr_tables.proofs.tables.variants.by_name.Goals as goal

pub returns : goal.returns
returns g c =
    asks variant_table by_order g.S.Store c.args.conn.now c.query_all.new.self c.query_all.result _ c.query_all.ensures.ok c.query_all.ensures.err c.query_all.ensures.survives
    refl
