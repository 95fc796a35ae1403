use Rattle.std.proofs.Common.{rules, ◌∙◌, None, cond, sym, ap}
use Rattle.std.specs.BTreeMap.{is_at}
use Rattle.fr_world.specs.Amends.{frame_at}
use Rattle.fr_world.proofs.KeyLaws.{name_cmp}
use Rattle.fr_tables.specs.Rows.{words}
use Rattle.fr_store.proofs.ViewLemmas.{less_one}
use Rattle.fr_store.proofs.page.view.without.Goals as goal

pub loop-row-preserved : goal.loop-row-preserved
loop-row-preserved c n =
    let name = c.in_ok-name_at.field-0 in
    c.remove.ensures.updates.0 n ∙ ap (cond (is_at (name_cmp name) n) None) (c.loop-row.invariant n)
    ∙ less_one c.args.rows.now c.loop-row.row-index c.row-item.result name n (frame_at n c.args.frames.entries) (search rules) (search rules) (sym (ap words c.in_ok-name_at.ensures.value))
