use Rattle.std.proofs.Common.{refl}
use Rattle.fr_tables.proofs.TheTables.{cluster2_table}
use Rattle.fr_tables.proofs.Cluster2Lemmas.{its_row}
use Rattle.fr_tables.proofs.FindLemmas.{asks_inside}
use Rattle.fr_tables.proofs.tables.cluster2.row_inside.Goals as goal

pub returns : goal.returns
returns g c =
    asks_inside cluster2_table its_row g.S.Store c.args.tx.now c.query_all.new.self c.query_all.result _ c.query_all.ensures.same_reference c.query_all.ensures.ok c.query_all.ensures.err
    c.query_all.ensures.survives refl
