use Rattle.std.proofs.Common.{◌≡◌, ◌∙◌, ◌++◌, reverse, ap}
use Rattle.fr_base.specs.declared.name.Name.{Name}
use Rattle.fr_world.specs.PageEdits.{coming, edits_between, going}
use Rattle.fr_world.specs.Pages.{own_rows_of}
use Rattle.fr_world.proofs.decision.page_edits.edits_between.Goals as goal

pub returns : goal.returns
unfolding edits_between
returns c =
    let before = c.args.before.now in
    let after = c.args.after.now in
    let olds = (own_rows_of before).frames in
    let news = (own_rows_of after).frames in
    let gone = going before.supplier before.variant news olds.rows in
    let same = c.requires.same in
    let one : c.push_going.new.edits.items ≡ gone = c.in_ok-push_going.ensures ∙ ap (λ l. l ++ gone) c.new-edits.ensures.items in
    c.in_ok-push_coming.ensures
    ∙ ap (λ l. l ++ coming after.supplier after.variant olds news.rows) (c.reverse.ensures.items ∙ ap reverse one)
    ∙ ap (λ (z : Name × Name). reverse gone ++ coming z.0 z.1 olds news.rows) (λ i. (same.supplier i, same.variant i))
