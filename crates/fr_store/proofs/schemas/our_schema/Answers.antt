use Rattle.std.proofs.Common.{◌∙◌}
use Rattle.sqlite.proofs.Callers.{memory_is_clean}
use Rattle.fr_tables.proofs.LayoutLemmas.{placed_ours}
use Rattle.fr_store.proofs.schemas.our_schema.Goals as goal

pub returns : goal.returns
returns c =
    let made = c.in_ok-schema.ensures ∙ c.schema.ensures.value ∙ c.in_ok-make.ensures.made (memory_is_clean c.make.new.conn) (record { schema = c.in_ok-conn.ensures.empty.2; empty = tt }) in
    placed_ours _ _ _ (record { cluster2 = c.args.layout.cluster2; index = c.args.layout.index; before = c.args.layout.before; behind = c.args.layout.behind }) made c.in_ok-move_index.ensures c.in_ok-move_table.ensures
