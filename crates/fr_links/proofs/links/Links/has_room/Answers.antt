use Rattle.std.proofs.Common.{refl}
use Rattle.fr_links.proofs.Turned.{then_stay, turns_same}
use Rattle.fr_links.proofs.links.Links.has_room.Goals as goal

pub returns-then-len-self-clause-turns : goal.returns-then-len-self-clause-turns
returns-then-len-self-clause-turns g c = turns_same _ _ _ _ c.args.self.now.table

pub returns-in_err-watch-clause-turns : goal.returns-in_err-watch-clause-turns
returns-in_err-watch-clause-turns g c = turns_same _ _ _ _ c.args.self.now.table

pub returns-then-not-self-clause-turns : goal.returns-then-not-self-clause-turns
returns-then-not-self-clause-turns g c = turns_same _ _ _ _ c.args.self.now.table

pub loop-init : goal.loop-init
loop-init g c = record { turns = turns_same _ _ _ _ c.args.self.now.table; judge = refl }

pub returns-then-not-made-clause-turns : goal.returns-then-not-made-clause-turns
returns-then-not-made-clause-turns g c =
    then_stay _ _ _ _ _ _ c.make_room-made.new.self c.loop.invariant.turns c.make_room-made.ensures.stay c.make_room-made.ensures.queue

pub loop-preserved : goal.loop-preserved
loop-preserved g c =
    let i = c.loop.invariant in
    record { turns = then_stay _ _ _ _ _ _ c.make_room-made.new.self i.turns c.make_room-made.ensures.stay c.make_room-made.ensures.queue; judge = i.judge }
