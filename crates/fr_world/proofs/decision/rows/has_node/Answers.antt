use Rattle.std.proofs.Common.{◌∙◌, sym, ap}
use Rattle.std.specs.List.{list_any}
use Rattle.std.specs.BTreeMap.{is_at}
use Rattle.fr_world.proofs.DecideRows.{node_there}
use Rattle.fr_world.proofs.KeyLaws.{name_cmp}
use Rattle.fr_world.proofs.decision.rows.has_node.Goals as goal

pub returns : goal.returns
returns c = c.contains.ensures ∙ ap (list_any (is_at (name_cmp c.args.node))) c.nodes.ensures ∙ sym (node_there c.args.page.now c.args.node)
