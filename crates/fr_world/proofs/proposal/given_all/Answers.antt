use Rattle.std.proofs.Common.{◌≡◌, ◌∙◌, ◌++◌, [], filter, sym, ap, rules}
use Rattle.std.specs.List.{flat_map}
use Rattle.fr_base.specs.Proposals.{given_all, given_to, is_of_node}
use Rattle.fr_base.specs.RefusedWishes.{asked_of}
use Rattle.fr_world.specs.Pages.{own_rows_of}
use Rattle.fr_world.proofs.GivenRows.{page-nodes}
use Rattle.fr_world.proofs.proposal.given_all.Goals as goal

pub loop-node-init : goal.loop-node-init
unfolding given_all
loop-node-init c =
    let page = c.args.page.now in
    let each = flat_map (λ n. given_to (own_rows_of page) c.args.replace c.args.cells.now n (filter (is_of_node n) (asked_of c.args.reads.now))) in
    let none : c.new-given.result.items ≡ [] = search rules in
    (λ i. none i ++ each ((c.into_iter-node-iterator.ensures.into_iter_gives ∙ c.iter-node-items.ensures.rest) i))
    ∙ ap each (sym (page-nodes page c.nodes.result.now.keys c.nodes.ensures c.iter-node-items.ensures.ordered))
