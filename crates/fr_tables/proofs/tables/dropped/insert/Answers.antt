use Rattle.std.proofs.Common.{refl}
use Rattle.fr_tables.proofs.DroppedEnters.{enters}
use Rattle.fr_tables.proofs.TableOf.{runs}
use Rattle.fr_tables.proofs.tables.dropped.insert.Goals as goal

pub returns : goal.returns
returns g c =
    runs (enters c.args.key.now) g.S.Store c.args.tx.now c.execute.new.self c.execute.result _ c.execute.ensures.same_reference c.execute.ensures.runs c.execute.ensures.survives
    (rw (c.params-to_sql.ensures, c.params-to_sql-2.ensures, c.params-to_sql-3.ensures, c.as_str.ensures.value, c.as_str-2.ensures.value, c.as_str-3.ensures.value) refl)
