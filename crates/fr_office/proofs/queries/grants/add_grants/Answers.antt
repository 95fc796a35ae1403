use Rattle.std.proofs.Common.{◌∙◌, ap, sym, rules}
use Rattle.fr_office.specs.Shared.{with_rows}
use Rattle.fr_office.proofs.GrantLaws.{added, page_entries, page_grants-rows}
use Rattle.fr_world.specs.Loads.{grants_in_lanes}
use Rattle.fr_office.proofs.queries.grants.add_grants.Goals as goal

pub loop-at-init : goal.loop-at-init
loop-at-init c =
    ap (with_rows (grants_in_lanes c.args.held.now.entries))
    ((λ i. page_entries (c.supplier-supplier.ensures i) ((c.into_iter-at-iterator.ensures.into_iter_gives ∙ c.iter-at-items.ensures.rest) i))
    ∙ page_grants-rows c.args.page.now c.grants.result.now.entries c.grants.ensures c.iter-at-items.ensures.ordered)

pub loop-at-preserved : goal.loop-at-preserved
loop-at-preserved c =
    added c.supplier-supplier.result c.loop-at.held.entries c.insert.new.self.entries c.in-Some.at.now c.in-Some.node.now c.loop-at.at-iterator c.next.new.self _
    c.in_ok-insert.ensures.was_ordered c.in_ok-insert.ensures.entries (search rules) c.loop-at.invariant

pub returns : goal.returns
returns c = ap (λ es. with_rows (grants_in_lanes c.loop-at.held.entries) (page_entries c.supplier-supplier.result es)) (sym c.in-None.ensures.steps.0) ∙ c.loop-at.invariant
