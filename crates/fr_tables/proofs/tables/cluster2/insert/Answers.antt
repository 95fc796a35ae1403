use Rattle.std.proofs.Common.{refl}
use Rattle.fr_tables.specs.Statements.{cluster2_row}
use Rattle.fr_tables.proofs.Cluster2Lemmas.{inserts}
use Rattle.fr_tables.proofs.TableOf.{runs}
use Rattle.fr_tables.proofs.tables.cluster2.insert.Goals as goal

pub returns : goal.returns
returns g c =
    runs (inserts (cluster2_row c.args.of.now c.args.integrator.now)) g.S.Store c.args.tx.now c.execute.new.self c.execute.result _ c.execute.ensures.same_reference c.execute.ensures.runs c.execute.ensures.survives
    (rw (c.params-to_sql.ensures, c.params-to_sql-2.ensures, c.params-to_sql-3.ensures, c.params-to_sql-4.ensures, c.params-to_sql-5.ensures, c.params-to_sql-6.ensures, c.params-to_sql-7.ensures, c.params-to_sql-8.ensures, c.params-to_sql-9.ensures, c.params-to_sql-10.ensures, c.static_slots.ensures.value, c.slot_macroticks.ensures.value, c.dynamic_macroticks.ensures, c.symbol_macroticks.ensures, c.idle_macroticks.ensures.value, c.macroticks_per_cycle.ensures.value, c.payload_words.ensures.value, c.as_str.ensures, c.channels.ensures, c.as_str-2.ensures.value, c.cycles.ensures.value) refl)
