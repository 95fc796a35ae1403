use Rattle.std.proofs.Common.{refl}
use Rattle.fr_tables.proofs.TheTables.{variant_table}
use Rattle.fr_tables.proofs.VariantLemmas.{by_name}
use Rattle.fr_tables.proofs.FindLemmas.{asks_inside}
use Rattle.fr_tables.proofs.tables.variants.one_inside.Goals as goal

pub returns : goal.returns
returns g c =
    asks_inside variant_table (by_name c.args.name.now) g.S.Store c.args.tx.now c.query_all.new.self c.query_all.result _ c.query_all.ensures.same_reference c.query_all.ensures.ok c.query_all.ensures.err
    c.query_all.ensures.survives (rw (c.params-to_sql.ensures, c.as_str.ensures.value) refl)
