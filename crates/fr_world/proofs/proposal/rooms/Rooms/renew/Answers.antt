use Rattle.std.proofs.Common.{◌≡◌, ◌∙◌, ◌++◌, List, [], ◌∷◌, drop, length, map, take, set, option_map, take_all, append-nil, refl, sym, ap, subst, arith}
use Rattle.std.proofs.Math.Seq.{take-append_seam}
use Rattle.std.proofs.lemmas.List.{drop_all}
use Rattle.std.proofs.lemmas.List.Edits.{map_over_more}
use Rattle.fr_world.specs.Proposals.{AreRooms, fittest_in, rated_of, renewed_room}
use Rattle.fr_world.specs.declared.proposal.rooms.Room.{Room}
use Rattle.fr_world.proofs.SlotFits.{rooms-renewed}
use Rattle.fr_world.proofs.proposal.rooms.Rooms.renew.Goals as goal

pub loop-room-preserved : goal.loop-room-preserved
loop-room-preserved c =
    let fresh : Room = record { slot = c.args.place.now.slot; fittest = c.fittest_in-fittest.result } in
    ap (set c.loop-room.room-items c.loop-room.room-index) (c.renewed.ensures ∙ ap (renewed_room fresh) (sym c.room-item.is))
    ∙ map_over_more (renewed_room fresh) c.deref_mut-room-items.result.now c.loop-room.room-items c.loop-room.room-index c.room-item.result c.loop-room-test.true c.loop-room.invariant c.room-item.is

pub returns-clause-rooms : goal.returns-clause-rooms
returns-clause-rooms c pairs f slots cells shows =
    let p = c.args.self.now.params in
    let kind = c.args.self.now.kind in
    let place = c.args.place.now in
    let olds = c.args.self.now.rooms.items in
    let items = c.loop-room.room-items in
    let xs = c.deref_mut-room-items.result.now in
    let i = c.loop-room.room-index in
    let fresh : Room = record { slot = place.slot; fittest = c.fittest_in-fittest.result } in
    let long : length items ≡ c.args.self.now.rooms.len = c.loop-room.auto.room-items ∙ c.deref_mut-room-items.ensures.len in
    let whole : take c.args.self.now.rooms.len (items ++ drop (length items) olds) ≡ items = ap (λ n. take n (items ++ drop (length items) olds)) (sym long) ∙ take-append_seam items (drop (length items) olds) in
    let all : items ≡ map (renewed_room fresh) xs =
    c.loop-room.invariant
    ∙ (λ j. map (renewed_room fresh) (take_all i xs (omega (arith, c.loop-room-test.false)) j) ++ drop_all i xs (omega (arith, c.loop-room-test.false)) j)
    ∙ append-nil (map (renewed_room fresh) xs) in
    let fit : option_map rated_of fresh.fittest ≡ fittest_in p (pairs ++ (f, place) ∷ []) kind.channels kind.repetition place.slot =
    c.fittest_in-fittest.ensures c.args.cells.now c.filled_in.ensures ∙ ap (λ ps. fittest_in p ps kind.channels kind.repetition place.slot) cells in
    subst (λ ps. AreRooms p ps kind.channels kind.repetition slots (take c.args.self.now.rooms.len (items ++ drop (length items) olds))) (sym cells)
    (rooms-renewed p pairs f place kind.channels kind.repetition slots olds (take c.args.self.now.rooms.len (items ++ drop (length items) olds)) fresh refl shows fit
    (whole ∙ all ∙ ap (map (renewed_room fresh)) c.deref_mut-room-items.ensures.value))
