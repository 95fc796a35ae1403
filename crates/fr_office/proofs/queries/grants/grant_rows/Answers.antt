use Rattle.std.proofs.Common.{◌∙◌, ◌++◌, [], ◌∷◌}
use Rattle.fr_base.specs.Queries.{grant_row}
use Rattle.fr_office.proofs.GrantLaws.{held-rows, held_entry, held_shown}
use Rattle.fr_office.proofs.ShownLaws.{shown-all}
use Rattle.fr_office.proofs.queries.grants.grant_rows.Goals as goal

pub loop-at-init : goal.loop-at-init
loop-at-init c =
    (λ i. c.new-rows.ensures i ++ held_shown ((c.into_iter-at-iterator.ensures.into_iter_gives ∙ c.iter-at-items.ensures.rest) i))
    ∙ held-rows c.args.held.now.entries c.iter-at-items.ensures.ordered

pub returns : goal.returns
returns c = shown-all (λ e. grant_row (held_entry e) ∷ []) c.loop-at.at-iterator c.loop-at.rows _ c.in-None.ensures.steps.0 c.loop-at.invariant
