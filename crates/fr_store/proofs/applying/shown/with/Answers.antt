use Rattle.std.proofs.Common.{rules, ◌∙◌, true, cond, sym, ap}
use Rattle.std.specs.BTreeMap.{is_at}
use Rattle.fr_world.proofs.KeyLaws.{name_cmp}
use Rattle.fr_tables.specs.Rows.{words}
use Rattle.fr_store.specs.Flat.{has_name}
use Rattle.fr_store.proofs.ShownLemmas.{more_name}
use Rattle.fr_store.proofs.applying.shown.with.Goals as goal

pub loop-row-preserved : goal.loop-row-preserved
loop-row-preserved c n =
    let name = c.in_ok-name_at.field-0 in
    c.in-Ok.ensures.updates.0 n ∙ ap (cond (is_at (name_cmp name) n) true) (c.loop-row.invariant n)
    ∙ more_name c.args.rows.now c.loop-row.row-index c.row-item.result name n (search rules) (search rules) (sym (ap words c.in_ok-name_at.ensures.value)) (has_name n c.args.names.keys)
