use Rattle.std.proofs.Common.{◌≡◌, ◌∙◌, Some, IfOk, map, rules, tests, subst, sym, ap}
use Rattle.fr_base.specs.Queries.{placements_in}
use Rattle.fr_base.specs.Tables.{get}
use Rattle.fr_base.specs.declared.import.Header.TheVariants.{Placements}
use Rattle.fr_base.specs.declared.request.FrameChange.TheVariants.{Unplace}
use Rattle.fr_world.specs.Pages.{frame_data, frame_of, own_rows_of}
use Rattle.fr_world.specs.ReplacementDecisions.{freeing}
use Rattle.fr_world.proofs.decision.freeing.freeing.Goals as goal

pub returns-in-Some : goal.returns-in-Some
returns-in-Some c =
    let page = own_rows_of c.args.page.now in
    let frame = frame_of (frame_data c.in-Some.row.now) in
    let found : get page.frames (page.supplier, c.args.frame) ≡ Some frame = search (rules, tests) in
    let same : freeing c.args.kind (get page.frames (page.supplier, c.args.frame)) ≡ map Unplace (placements_in frame) =
    ap (λ r. freeing r (get page.frames (page.supplier, c.args.frame))) c.in-Placements.is
    ∙ ap (freeing Placements) found in
    subst (λ ends. IfOk c.ends_of_placements.result (λ made. made.items ≡ ends)) (sym same) c.ends_of_placements.ensures
