use Rattle.std.proofs.Common.{◌∙◌, refl, subst, sym}
use Rattle.fr_links.specs.Turning.{Reached}
use Rattle.fr_links.proofs.Turned.{on_err, reached_links, reached_same, then_reached}
use Rattle.fr_links.proofs.links.Links.accept.Goals as goal
use Rattle.fr_links.proofs.links.Links.accept.Goals.{else-loop-test, then-loop-test+in_ok-turn+in_default+then-is_over}

pub loop-init : goal.loop-init
loop-init g c = record { reached = reached_same _ _ _ _ c.args.self.now.table; judge = refl }

pub returns-in_err-turn-clause-err : goal.returns-in_err-turn-clause-err
returns-in_err-turn-clause-err g c =
    let i = c.loop.invariant in
    on_err c.from_residual.result _
    (then_reached g.P.Stream.Wire.remaining g.P.Stream.Wire.contents g.P.Port.fresh g.J.Judge.tells c.args.self.now.table c.loop.self.table c.turn.new.self.table c.args.self.now.judge c.loop.self.judge i.judge i.reached c.turn.ensures.turns)

pub returns-in-Some-clause-gives : goal.returns-in-Some-clause-gives
returns-in-Some-clause-gives g c =
    let i = c.loop.invariant in
    let next = c.in-Some.ensures in
    record {
      mid = c.turn.new.self.table;
      reached = then_reached g.P.Stream.Wire.remaining g.P.Stream.Wire.contents g.P.Port.fresh g.J.Judge.tells c.args.self.now.table c.loop.self.table c.turn.new.self.table c.args.self.now.judge c.loop.self.judge i.judge i.reached c.turn.ensures.turns;
      others = next.others;
      first = next.first;
      once = next.once;
      ends = next.given;
    }

pub loop-preserved : goal.loop-preserved
loop-preserved g c =
    let i = c.loop.invariant in
    record {
      reached = reached_links _ _ _ _ _ c.turn.new.self.table c.next.new.self c.in_default.ensures.stays
          (then_reached g.P.Stream.Wire.remaining g.P.Stream.Wire.contents g.P.Port.fresh g.J.Judge.tells c.args.self.now.table c.loop.self.table c.turn.new.self.table c.args.self.now.judge c.loop.self.judge i.judge i.reached c.turn.ensures.turns);
      judge = c.turn.ensures.judge ∙ i.judge;
    }

pub returns-clause-err : goal.returns-clause-err
returns-clause-err g c =
    let i = c.loop.invariant in
    elim c.loop-test.branch [
      | else-loop-test w ↦ subst (λ self. Reached g.P.Stream.Wire.remaining g.P.Stream.Wire.contents g.P.Port.fresh (g.J.Judge.tells c.args.self.now.judge) c.args.self.now.table self.table) (sym w.self-is) i.reached
      | then-loop-test+in_ok-turn+in_default+then-is_over w ↦
          subst (λ self. Reached g.P.Stream.Wire.remaining g.P.Stream.Wire.contents g.P.Port.fresh (g.J.Judge.tells c.args.self.now.judge) c.args.self.now.table self.table) (sym w.self-is)
          (reached_links _ _ _ _ _ w.turn.new.self.table w.next.new.self w.in_default.ensures.stays
          (then_reached g.P.Stream.Wire.remaining g.P.Stream.Wire.contents g.P.Port.fresh g.J.Judge.tells c.args.self.now.table c.loop.self.table w.turn.new.self.table c.args.self.now.judge c.loop.self.judge i.judge i.reached w.turn.ensures.turns))
    ]
