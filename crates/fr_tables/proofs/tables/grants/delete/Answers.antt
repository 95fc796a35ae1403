use Rattle.std.proofs.Common.{refl, pos}
use Rattle.fr_base.specs.Channels.{text_of_channel}
use Rattle.fr_tables.proofs.GrantLemmas.{deletes}
use Rattle.fr_tables.proofs.TableOf.{runs}
use Rattle.fr_tables.proofs.tables.grants.delete.Goals as goal

pub returns : goal.returns
returns g c =
    runs (deletes c.args.variant.now (pos c.args.slot) (text_of_channel c.args.channel)) g.S.Store c.args.tx.now c.execute.new.self c.execute.result _ c.execute.ensures.same_reference c.execute.ensures.runs c.execute.ensures.survives
    (rw (c.params-to_sql.ensures, c.params-to_sql-2.ensures, c.params-to_sql-3.ensures, c.as_str.ensures.value, c.get.ensures.value, c.as_str-2.ensures) refl)
