use Rattle.std.proofs.Common.{◌≡◌, ◌⊎◌, ◌∙◌, Err, IfErr, inr, sym, subst, rules}
use Rattle.fr_base.specs.declared.refusal.Refusal.TheVariants.{Unavailable}
use Rattle.fr_world.specs.Rooms.{page_room}
use Rattle.fr_world.proofs.RoomLaws.{room-made, room-refused}
use Rattle.fr_world.proofs.rooms.room.Goals as goal

pub returns-in_err-node-clause-refusal : goal.returns-in_err-node-clause-refusal
returns-in_err-node-clause-refusal c =
    let same : c.from_residual.result ≡ Err c.in_err-node.field-0.0 = search rules in
    subst (λ r. IfErr r (λ e. (e ≡ Unavailable) ⊎ (page_room c.args.page.now c.args.frame c.args.repetition ≡ Err e))) (sym same)
    (inr (room-refused c.args.page.now c.args.frame c.in_err-node.field-0.0 c.args.repetition (sym c.in_err-node.was ∙ c.open_node.ensures)))

pub returns-clause-places : goal.returns-clause-places
returns-clause-places c = room-made c.args.page.now c.args.frame c.in_ok-node.node c.args.repetition c.in_ok-places.places (sym c.in_ok-node.was ∙ c.open_node.ensures) c.in_ok-places.ensures
