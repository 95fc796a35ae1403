use Rattle.std.proofs.Common.{◌≡◌, ◌∙◌, map, option_map, take_all, sym, ap, arith}
use Rattle.fr_world.specs.Proposals.{rated_of}
use Rattle.fr_world.proofs.SlotFits.{best-found, best-next, best_among, found_in}
use Rattle.fr_world.proofs.proposal.rooms.Rooms.fittest.Goals as goal

pub loop-room-preserved : goal.loop-room-preserved
loop-room-preserved c =
    best-next c.deref-room-items.result.now c.loop-room.room-index c.room-item.result (option_map rated_of c.loop-room.found) (option_map rated_of c.fitter-found.result) c.loop-room-test.true c.room-item.is c.loop-room.invariant c.fitter-found.ensures

pub returns-in_err-found : goal.returns-in_err-found
returns-in_err-found c pairs slots are =
    let rooms = c.args.self.now in
    let all : option_map rated_of c.loop-room.found ≡ best_among (map found_in rooms.rooms.items) =
    c.loop-room.invariant ∙ ap (λ rs. best_among (map found_in rs)) (take_all c.loop-room.room-index c.deref-room-items.result.now (omega (arith, c.loop-room-test.false)) ∙ c.deref-room-items.ensures.value) in
    c.from_residual.ensures
    ∙ ap (λ o. option_map (λ x. x.place) (option_map rated_of o)) (sym c.in_err-found.was)
    ∙ best-found rooms.params pairs rooms.kind.channels rooms.kind.repetition slots rooms.rooms.items (option_map rated_of c.loop-room.found) are all

pub returns : goal.returns
returns c pairs slots are =
    let rooms = c.args.self.now in
    let all : option_map rated_of c.loop-room.found ≡ best_among (map found_in rooms.rooms.items) =
    c.loop-room.invariant ∙ ap (λ rs. best_among (map found_in rs)) (take_all c.loop-room.room-index c.deref-room-items.result.now (omega (arith, c.loop-room-test.false)) ∙ c.deref-room-items.ensures.value) in
    ap (λ o. option_map (λ x. x.place) (option_map rated_of o)) (sym c.in_ok-found.was)
    ∙ best-found rooms.params pairs rooms.kind.channels rooms.kind.repetition slots rooms.rooms.items (option_map rated_of c.loop-room.found) are all
