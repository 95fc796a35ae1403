use Rattle.std.proofs.Common.{refl, pos}
use Rattle.fr_base.specs.Channels.{text_of_channel}
use Rattle.fr_tables.specs.Rows.{GrantRow}
use Rattle.fr_tables.proofs.GrantLemmas.{inserts}
use Rattle.fr_tables.proofs.TableOf.{runs}
use Rattle.fr_tables.proofs.tables.grants.insert.Goals as goal

pub returns : goal.returns
returns g c =
    let row : GrantRow = record { variant = c.args.variant.now; slot = pos c.args.slot; channel = text_of_channel c.args.channel; supplier = c.args.supplier.now; node = c.args.node.now } in
    runs (inserts row) g.S.Store c.args.tx.now c.execute.new.self c.execute.result _ c.execute.ensures.same_reference c.execute.ensures.runs c.execute.ensures.survives
    (rw (c.params-to_sql.ensures, c.params-to_sql-2.ensures, c.params-to_sql-3.ensures, c.params-to_sql-4.ensures, c.params-to_sql-5.ensures, c.as_str.ensures.value, c.get.ensures.value, c.as_str-2.ensures, c.as_str-3.ensures.value, c.as_str-4.ensures.value) refl)
