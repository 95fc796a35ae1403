use Rattle.std.proofs.Common.{◌≡◌, ◌∙◌, ◌++◌, [], sym, ap, append-nil, append_assoc, rules}
use Rattle.fr_base.specs.Book.{placements_of}
use Rattle.fr_world.specs.Pages.{frame_data, frame_of, own_rows_of}
use Rattle.fr_world.specs.Sendings.{filled_by}
use Rattle.fr_world.proofs.TriggeringLaws.{fillings, placements_of-page}
use Rattle.fr_world.proofs.triggerings.Triggerings.push_page.Goals as goal

pub loop-name-init : goal.loop-name-init
loop-name-init c = (
  ap (λ more. c.args.self.now ++ more)
      ((λ i. fillings (c.supplier-supplier.ensures i) ((c.into_iter-name-iterator.ensures.into_iter_gives ∙ c.iter-name-items.ensures.rest) i))
      ∙ sym (placements_of-page c.args.page.now c.frames.result.now.entries c.frames.ensures.value c.iter-name-items.ensures.ordered)),
  ([], sym (append-nil c.args.self.now)),
)

pub loop-name-preserved : goal.loop-name-preserved
loop-name-preserved c =
    let frame = filled_by (c.supplier-supplier.result, c.in-Some.name.now) (frame_of (frame_data c.in-Some.frame.now)) in
    let before = c.loop-name.invariant.1 in
    let so_far : c.push_frame.new.self ++ fillings c.supplier-supplier.result c.next.new.self ≡ c.args.self.now ++ placements_of (own_rows_of c.args.page.now).frames = search (rules, append_assoc) in (
      so_far,
      (before.0 ++ frame, c.in_ok-push_frame.ensures.ok ∙ ap (λ ps. ps ++ frame) before.1 ∙ append_assoc c.args.self.now before.0 frame),
    )

pub returns-clause-ok : goal.returns-clause-ok
returns-clause-ok c =
    let now = c.loop-name.self in
    let left : c.loop-name.name-iterator ≡ [] = c.in-None.ensures.steps.0 in
    sym (append-nil now)
    ∙ ap (λ es. now ++ fillings c.supplier-supplier.result es) (sym left)
    ∙ c.loop-name.invariant.0
