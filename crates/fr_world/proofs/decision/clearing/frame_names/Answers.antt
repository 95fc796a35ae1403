use Rattle.std.proofs.Common.{◌≡◌, ◌∙◌, ◌++◌, [], map, sym, ap, append-nil, append_assoc, rules}
use Rattle.fr_world.specs.Pages.{own_rows_of}
use Rattle.fr_world.proofs.ClearingLaws.{names_in, page_names}
use Rattle.fr_world.proofs.decision.clearing.frame_names.Goals as goal

pub loop-name-init : goal.loop-name-init
loop-name-init c =
    let none : c.new-names.result.items ≡ [] = search rules in
    (λ i. none i ++ names_in ((c.into_iter-name-iterator.ensures.into_iter_gives ∙ c.iter-name-items.ensures.rest) i))
    ∙ sym (page_names c.args.page.now c.frames.result.now.entries c.frames.ensures.value c.iter-name-items.ensures.ordered)

pub loop-name-preserved : goal.loop-name-preserved
loop-name-preserved c =
    let so_far : c.push.new.self.items ++ names_in c.next.new.self ≡ map (λ row. row.0.1) (own_rows_of c.args.page.now).frames.rows = search (rules, append_assoc) in so_far

pub returns : goal.returns
returns c =
    let now = c.loop-name.names.items in
    let left : c.loop-name.name-iterator ≡ [] = c.in-None.ensures.steps.0 in
    sym (append-nil now) ∙ ap (λ es. now ++ names_in es) (sym left) ∙ c.loop-name.invariant
