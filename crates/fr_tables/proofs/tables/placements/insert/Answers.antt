use Rattle.std.proofs.Common.{refl}
use Rattle.fr_tables.specs.Statements.{placement_row}
use Rattle.fr_tables.proofs.PlacementLemmas.{inserts}
use Rattle.fr_tables.proofs.TableOf.{runs}
use Rattle.fr_tables.proofs.tables.placements.insert.Goals as goal

pub returns : goal.returns
returns g c =
    runs (inserts (placement_row c.args.key.now c.args.placement.now)) g.S.Store c.args.tx.now c.execute.new.self c.execute.result _ c.execute.ensures.same_reference c.execute.ensures.runs c.execute.ensures.survives
    (rw (c.params-to_sql.ensures, c.params-to_sql-2.ensures, c.params-to_sql-3.ensures, c.params-to_sql-4.ensures, c.params-to_sql-5.ensures, c.params-to_sql-6.ensures, c.params-to_sql-7.ensures, c.as_str.ensures.value, c.as_str-2.ensures.value, c.as_str-3.ensures.value, c.get.ensures.value, c.as_str-4.ensures, c.from.ensures, c.base.ensures.value, c.from-2.ensures, c.repetition.ensures.value) refl)
