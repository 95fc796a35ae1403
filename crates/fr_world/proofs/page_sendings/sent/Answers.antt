use Rattle.std.proofs.Common.{◌∙◌, ◌++◌, ap}
use Rattle.fr_base.specs.Book.{placements_of}
use Rattle.fr_world.specs.Pages.{own_rows_of}
use Rattle.fr_world.specs.Sendings.{cycle_cells, sent_in}
use Rattle.fr_world.proofs.ScheduleLaws.{page_sendings-sent}
use Rattle.fr_world.proofs.page_sendings.sent.Goals as goal

pub returns-clause-rows : goal.returns-clause-rows
returns-clause-rows c =
    let k = c.args.cycle in
    c.in_ok-push_sendings.ensures
    ∙ (λ i. c.new-rows.ensures i ++ sent_in c.push_page.new.self (cycle_cells (c.params.ensures i) k))
    ∙ page_sendings-sent (own_rows_of c.args.page.now) _ k (c.in_ok-push_page.ensures.ok ∙ ap (λ ps. ps ++ placements_of (own_rows_of c.args.page.now).frames) c.new-triggerings.ensures)
