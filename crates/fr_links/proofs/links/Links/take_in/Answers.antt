use Rattle.std.proofs.Common.{◌≡◌, ◌∙◌, ap, refl, subst, sym}
use Rattle.fr_links.specs.Turning.{Turns}
use Rattle.fr_links.proofs.Turned.{then_turns, turns_same}
use Rattle.fr_links.proofs.links.Links.take_in.Goals as goal
use Rattle.fr_links.proofs.links.Links.take_in.Goals.{in-Ok, in-Err+in-NoneWaits, in-Err+in-WasGivenUp, in-Err+in-Lacks-2}

pub loop-init : goal.loop-init
loop-init g c = record { turns = turns_same _ _ _ _ c.args.self.now.table; judge = refl }

pub returns-in_err-has_room-clause-turns : goal.returns-in_err-has_room-clause-turns
returns-in_err-has_room-clause-turns g c =
    let i = c.loop.invariant in
    then_turns g.P.Stream.Wire.remaining g.P.Stream.Wire.contents g.P.Port.fresh g.J.Judge.tells c.args.self.now.table c.loop.self.table c.has_room.new.self.table c.args.self.now.judge c.loop.self.judge i.judge i.turns c.has_room.ensures.turns

pub returns-then-not-has_room-clause-turns : goal.returns-then-not-has_room-clause-turns
returns-then-not-has_room-clause-turns g c =
    let i = c.loop.invariant in
    then_turns g.P.Stream.Wire.remaining g.P.Stream.Wire.contents g.P.Port.fresh g.J.Judge.tells c.args.self.now.table c.loop.self.table c.has_room.new.self.table c.args.self.now.judge c.loop.self.judge i.judge i.turns c.has_room.ensures.turns

pub returns-in-Fails-clause-turns : goal.returns-in-Fails-clause-turns
returns-in-Fails-clause-turns g c =
    let i = c.loop.invariant in
    then_turns g.P.Stream.Wire.remaining g.P.Stream.Wire.contents g.P.Port.fresh g.J.Judge.tells c.args.self.now.table c.loop.self.table c.has_room.new.self.table c.args.self.now.judge c.loop.self.judge i.judge i.turns c.has_room.ensures.turns

pub loop-preserved : goal.loop-preserved
loop-preserved g c =
    let i = c.loop.invariant in
    let here = then_turns g.P.Stream.Wire.remaining g.P.Stream.Wire.contents g.P.Port.fresh g.J.Judge.tells c.args.self.now.table c.loop.self.table c.has_room.new.self.table c.args.self.now.judge c.loop.self.judge i.judge i.turns c.has_room.ensures.turns in
    let judge : c.has_room.new.self.judge ≡ c.args.self.now.judge = c.has_room.ensures.judge ∙ i.judge in
    elim c.match-accept_now.branch [
      | in-Ok w ↦ record {
        turns = subst (λ self. Turns g.P.Stream.Wire.remaining g.P.Stream.Wire.contents g.P.Port.fresh (g.J.Judge.tells c.args.self.now.judge) c.args.self.now.table self.table) (sym w.self-is)
            (then_turns g.P.Stream.Wire.remaining g.P.Stream.Wire.contents g.P.Port.fresh g.J.Judge.tells c.args.self.now.table c.has_room.new.self.table w.welcome.new.self.table c.args.self.now.judge c.has_room.new.self.judge judge here w.welcome.ensures.turns);
        judge = ap (λ self. self.judge) w.self-is ∙ w.welcome.ensures.judge ∙ judge;
      }
      | in-Err+in-NoneWaits w ↦ record {
        turns = subst (λ self. Turns g.P.Stream.Wire.remaining g.P.Stream.Wire.contents g.P.Port.fresh (g.J.Judge.tells c.args.self.now.judge) c.args.self.now.table self.table) (sym w.self-is) here;
        judge = ap (λ self. self.judge) w.self-is ∙ judge;
      }
      | in-Err+in-WasGivenUp w ↦ record {
        turns = subst (λ self. Turns g.P.Stream.Wire.remaining g.P.Stream.Wire.contents g.P.Port.fresh (g.J.Judge.tells c.args.self.now.judge) c.args.self.now.table self.table) (sym w.self-is) here;
        judge = ap (λ self. self.judge) w.self-is ∙ judge;
      }
      | in-Err+in-Lacks-2 w ↦ record {
        turns = subst (λ self. Turns g.P.Stream.Wire.remaining g.P.Stream.Wire.contents g.P.Port.fresh (g.J.Judge.tells c.args.self.now.judge) c.args.self.now.table self.table) (sym w.self-is) here;
        judge = ap (λ self. self.judge) w.self-is ∙ judge;
      }
    ]
