use Rattle.std.proofs.Common.{refl}
use Rattle.fr_tables.proofs.SupplierLemmas.{keys}
use Rattle.fr_tables.proofs.TableOf.{runs}
use Rattle.fr_tables.proofs.tables.suppliers.set_key.Goals as goal

pub returns : goal.returns
returns g c =
    runs (keys c.args.name.now c.args.key.now) g.S.Store c.args.tx.now c.execute.new.self c.execute.result _ c.execute.ensures.same_reference c.execute.ensures.runs c.execute.ensures.survives
    (rw (c.params-to_sql.ensures, c.params-to_sql-2.ensures, c.as_str.ensures.value, c.as_str-2.ensures.value) refl)
