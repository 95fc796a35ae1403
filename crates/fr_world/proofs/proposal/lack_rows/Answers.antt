use Rattle.std.proofs.Common.{◌≡◌, ◌∙◌, ◌++◌, [], sym, ap, rules}
use Rattle.std.specs.List.{flat_map}
use Rattle.fr_base.specs.Lacks.{lack_rows}
use Rattle.fr_world.proofs.GivenRows.{page-nodes}
use Rattle.fr_world.proofs.LackSlots.{lacks_of}
use Rattle.fr_world.proofs.proposal.lack_rows.Goals as goal

pub loop-node-init : goal.loop-node-init
unfolding lack_rows
loop-node-init c =
    let page = c.args.page.now in
    let each = flat_map (lacks_of page.params c.args.given.now) in
    (λ i. c.new-lacks.ensures i ++ each ((c.into_iter-node-iterator.ensures.into_iter_gives ∙ c.iter-node-items.ensures.rest) i))
    ∙ ap each (sym (page-nodes page c.nodes.result.now.keys c.nodes.ensures c.iter-node-items.ensures.ordered))
