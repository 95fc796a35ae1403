use Rattle.std.proofs.Common.{◌≡◌, ◌∙◌, map, ap}
use Rattle.fr_base.specs.Lacks.{lack_rows}
use Rattle.fr_base.specs.Proposals.{filled_places, given_all, given_wishes, judged_wishes, node_names, proposal, proposal_of, proposal_row}
use Rattle.fr_base.specs.RefusedWishes.{asked_of, frames_beside}
use Rattle.fr_base.specs.declared.proposal.Proposal.{Proposal}
use Rattle.fr_world.specs.Pages.{own_rows_of}
use Rattle.fr_world.proofs.proposal.propose_wishes.Goals as goal

pub returns : goal.returns
unfolding proposal proposal_of
returns c =
    let page = c.args.page.now in
    let own = own_rows_of page in
    let replace = c.args.replace in
    let wishes = c.args.wishes.now in
    let reads : c.in_ok-reads.reads.items ≡ judged_wishes own replace wishes = c.in_ok-reads.ensures in
    let cells : c.in_ok-cells.cells ≡ filled_places (frames_beside own replace wishes) = c.in_ok-cells.ensures in
    let given : c.in_ok-given.given.items ≡ given_wishes own replace wishes = c.in_ok-given.ensures ∙ (λ i. given_all own replace (cells i) (asked_of ((c.deref.ensures.value ∙ reads) i))) in
    let rows = c.in_ok-rows.ensures ∙ (λ i. map (proposal_row ((c.deref-3.ensures.value ∙ given) i)) ((c.deref-2.ensures.value ∙ reads) i)) in
    let lacks = c.in_ok-lacks.ensures.ok ∙ ap (λ gs. lack_rows page.params gs (node_names own)) (c.deref-4.ensures.value ∙ given) in
    λ i. record { rows = rows i; lacks = lacks i }
