use Rattle.std.proofs.Common.{◌≡◌, ◌∙◌, Ok, Err, refl, sym, rules}
use Rattle.fr_base.specs.Refusing.{◌>>◌}
use Rattle.fr_world.specs.Pages.{own_rows_of}
use Rattle.fr_world.proofs.DecideFilling.{refused-shown}
use Rattle.fr_world.proofs.DecideSteps.{place-answer}
use Rattle.fr_world.proofs.decision.placements.admit_placement.Goals as goal

pub returns-in_err-has_room : goal.returns-in_err-has_room
unfolding ◌>>◌
returns-in_err-has_room c =
    let same : c.from_residual.result ≡ Err c.in_err-has_room.field-0.0 = search rules in
    same ∙ place-answer (own_rows_of c.args.page.now) c.args.frame c.args.placement.now (Err c.in_err-has_room.field-0.0) (sym c.in_err-has_room.was ∙ c.has_room.ensures) _ refl

pub returns : goal.returns
unfolding ◌>>◌
returns c =
    place-answer (own_rows_of c.args.page.now) c.args.frame c.args.placement.now (Ok c.in_ok-has_room.field-0) (sym c.in_ok-has_room.was ∙ c.has_room.ensures)
    c.is_free.result (c.is_free.ensures ∙ refused-shown _ _ c.args.placement.now c.cells.ensures)
