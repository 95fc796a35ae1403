use Rattle.std.proofs.Common.{◌≡◌, ◌≤◌, ◌+◌, List, ◌∷◌, ◌++◌, [], Err, inl, inr, length, refl, sym, ap, subst, ◌∙◌, length-append, arith, rules}
use Rattle.fr_cli.specs.Outlets.{outlet}
use Rattle.fr_cli.specs.Serving.{ServesEach, TellsEach}
use Rattle.fr_cli.specs.Visits.{AreVisited, Visit}
use Rattle.fr_cli.proofs.ServingLaws.{each_then, served_until, tells_then}
use Rattle.fr_cli.proofs.VisitLaws.{sink, source, visited_then}
use Rattle.fr_cli.proofs.jobs.serve.answer_all.Goals as goal

pub loop-init : goal.loop-init
loop-init g c = record {
  falls = λ clean. clean;
  visits = [];
  each = refl;
  came_in = refl;
  served = refl;
  told = refl;
}

pub loop-preserved : goal.loop-preserved
loop-preserved g c =
    let l = c.loop.invariant in
    let (visit, came, serves, tells) = c.in_ok-lasts.ensures.served in
    record {
      falls = λ clean. l.falls (c.answer_next.ensures.falls clean);
      visits = l.visits ++ visit ∷ [];
      each = length-append l.visits (visit ∷ []) ∙ ap (λ n. n + 1) l.each;
      came_in = visited_then _ _ _ _ _ _ _ l.visits visit l.came_in came;
      served = each_then g.D.Desk.clean g.D.Desk.stands _ _ _ l.visits visit c.answer_next.ensures.falls l.served serves;
      told = tells_then (sink g.E.Write g.E.Sink) _ _ _ l.visits (visit ∷ []) l.told tells;
    }

pub returns-in_err-lasts-clause-served : goal.returns-in_err-lasts-clause-served
returns-in_err-lasts-clause-served g c =
    let l = c.loop.invariant in
    let fault = c.in_err-lasts.field-0.0 in
    let is : c.from_residual.result ≡ Err fault = search rules in
    let (ended, stood) = c.in_err-lasts.ensures.ended in
    let came_in = λ (visits : List Visit).
    AreVisited g.L.Listener (source g.L.Reader.Read g.L.Reader.Source) (sink g.L.Writer.Write g.L.Writer.Sink) c.args.service.now.seconds c.args.listener.now visits c.answer_next.new.listener in
    let few : length l.visits ≤ c.args.service.now.count = subst (λ n. n ≤ c.args.service.now.count) (sym l.each) (omega arith) in
    served_until _ c.args.service.now.count ⊥ _ came_in (outlet (sink g.E.Write g.E.Sink) c.args.err.now c.answer_next.new.err) c.from_residual.result fault l.visits is c.in_err-lasts.ensures.fault
    (subst (λ now. g.L.Listener.ends now) (sym stood) ended)
    (subst (λ now. AreVisited g.L.Listener (source g.L.Reader.Read g.L.Reader.Source) (sink g.L.Writer.Write g.L.Writer.Sink) c.args.service.now.seconds c.args.listener.now l.visits now) (sym stood) l.came_in)
    (subst (λ d. ServesEach g.D.Desk.clean g.D.Desk.stands c.args.desk.now d l.visits) (sym c.in_err-lasts.ensures.stays) l.served)
    (subst (λ told. TellsEach (sink g.E.Write g.E.Sink) c.args.err.now told l.visits) (sym c.in_err-lasts.ensures.quiet) l.told)
    few

pub returns-then-not-lasts-clause-served : goal.returns-then-not-lasts-clause-served
returns-then-not-lasts-clause-served g c =
    let l = c.loop.invariant in
    let (visit, came, serves, tells) = c.in_ok-lasts.ensures.served in
    let each : length (l.visits ++ visit ∷ []) ≡ c.loop.counter + 1 = length-append l.visits (visit ∷ []) ∙ ap (λ n. n + 1) l.each in
    record {
      visits = l.visits ++ visit ∷ [];
      came_in = visited_then _ _ _ _ _ _ _ l.visits visit l.came_in came;
      served = each_then g.D.Desk.clean g.D.Desk.stands _ _ _ l.visits visit c.answer_next.ensures.falls l.served serves;
      told = tells_then (sink g.E.Write g.E.Sink) _ _ _ l.visits (visit ∷ []) l.told tells;
      all = tt;
      few = subst (λ n. n ≤ c.args.service.now.count) (sym each) (omega arith);
      fault = inr (inl refl);
      first = inr tt;
    }
