use Rattle.fr_links.proofs.Turned.{then_going, turns_after, turns_same, turns_staying}
use Rattle.fr_links.proofs.links.Links.turn.Goals as goal

pub returns-in_err-now-clause-turns : goal.returns-in_err-now-clause-turns
returns-in_err-now-clause-turns g c =
    turns_same _ _ _ _ c.args.self.now.table

pub returns-in_err-taken-clause-turns : goal.returns-in_err-taken-clause-turns
returns-in_err-taken-clause-turns g c =
    turns_after _ _ _ _ c.args.self.now.table c.expire.new.self c.take_in.new.self.table
    (turns_staying _ _ _ _ c.args.self.now.table c.expire.new.self c.expire.ensures.stay c.expire.ensures.queue) c.take_in.ensures.turns

pub returns-then-is_over-clause-turns : goal.returns-then-is_over-clause-turns
returns-then-is_over-clause-turns g c =
    turns_after _ _ _ _ c.args.self.now.table c.expire.new.self c.take_in.new.self.table
    (turns_staying _ _ _ _ c.args.self.now.table c.expire.new.self c.expire.ensures.stay c.expire.ensures.queue) c.take_in.ensures.turns

pub returns-in-Err-clause-turns : goal.returns-in-Err-clause-turns
returns-in-Err-clause-turns g c =
    turns_after _ _ _ _ c.args.self.now.table c.expire.new.self c.take_in.new.self.table
    (turns_staying _ _ _ _ c.args.self.now.table c.expire.new.self c.expire.ensures.stay c.expire.ensures.queue) c.take_in.ensures.turns

pub returns-in_err-done-in_default-clause-turns : goal.returns-in_err-done-in_default-clause-turns
returns-in_err-done-in_default-clause-turns g c =
    turns_after _ _ _ _ c.args.self.now.table c.expire.new.self c.take_in.new.self.table
    (turns_staying _ _ _ _ c.args.self.now.table c.expire.new.self c.expire.ensures.stay c.expire.ensures.queue) c.take_in.ensures.turns

pub returns-in_err-now-2-clause-turns : goal.returns-in_err-now-2-clause-turns
returns-in_err-now-2-clause-turns g c =
    turns_after _ _ _ _ c.args.self.now.table c.expire.new.self c.take_in.new.self.table
    (turns_staying _ _ _ _ c.args.self.now.table c.expire.new.self c.expire.ensures.stay c.expire.ensures.queue) c.take_in.ensures.turns

pub returns-clause-turns : goal.returns-clause-turns
returns-clause-turns g c =
    let taken = c.take_in.ensures in
    then_going g.P.Stream.Wire.remaining g.P.Stream.Wire.contents g.P.Port.fresh g.J.Judge.tells c.args.self.now.table c.take_in.new.self.table c.go_on_each-told.new.self c.args.self.now.judge c.take_in.new.self.judge taken.judge
    (turns_after _ _ _ _ c.args.self.now.table c.expire.new.self c.take_in.new.self.table (turns_staying _ _ _ _ c.args.self.now.table c.expire.new.self c.expire.ensures.stay c.expire.ensures.queue) taken.turns)
    c.go_on_each-told.ensures
