use Rattle.std.proofs.Common.{◌∙◌}
use Rattle.sqlite.proofs.Callers.{memory_is_clean}
use Rattle.fr_tables.proofs.LayoutLemmas.{placed_before}
use Rattle.fr_store.proofs.schemas.schema_before.Goals as goal

pub returns : goal.returns
returns c =
    let made = c.in_ok-schema.ensures ∙ c.schema.ensures.value ∙ c.in_ok-make_before.ensures.made (memory_is_clean c.make_before.new.conn) (record { schema = c.in_ok-conn.ensures.empty.2; empty = tt }) in
    placed_before _ _ _ c.args.index c.args.stats made c.in_ok-move_index.ensures c.in_ok-add_stats.ensures
