use Rattle.std.proofs.Common.{◌≡◌, ◌∙◌, ◌++◌, rules}
use Rattle.fr_base.specs.Proposals.{held_slots}
use Rattle.fr_base.specs.Turns.{in_turn, take_places, take_turns}
use Rattle.fr_world.specs.Pages.{own_rows_of}
use Rattle.fr_world.proofs.proposal.plan_beside.Goals as goal

pub returns : goal.returns
unfolding take_turns
returns c =
    let p = c.args.page.now.params in
    let on = held_slots (own_rows_of c.args.page.now) c.args.node in
    let copy : c.in_ok-clone.field-0 ≡ c.args.cells.now = search rules in
    let same : c.new-plan.result.cells ≡ c.args.cells.now = c.new-plan.ensures.cells ∙ copy in
    c.in_ok-take_turns.ensures.given ∙ (λ i. c.new-plan.ensures.none i ++ take_places p on (same i) (in_turn p c.args.wishes.now))
