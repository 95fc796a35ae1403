use Rattle.std.proofs.Common.{refl}
use Rattle.fr_tables.proofs.TheTables.{supplier_table}
use Rattle.fr_tables.proofs.SupplierLemmas.{by_name}
use Rattle.fr_tables.proofs.FindLemmas.{asks_inside}
use Rattle.fr_tables.proofs.tables.suppliers.by_name_inside.Goals as goal

pub returns : goal.returns
returns g c =
    asks_inside supplier_table by_name g.S.Store c.args.tx.now c.query_all.new.self c.query_all.result _ c.query_all.ensures.same_reference c.query_all.ensures.ok c.query_all.ensures.err
    c.query_all.ensures.survives refl
