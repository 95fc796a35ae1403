use Rattle.std.proofs.Common.{◌≡◌, List, Err, inl, inr, refl, rules}
use Rattle.fr_cli.specs.Outlets.{outlet}
use Rattle.fr_cli.specs.Visits.{AreVisitedAt, Visit}
use Rattle.fr_cli.specs.declared.fault.Fault.TheVariants.{NoMemory}
use Rattle.fr_cli.proofs.ServingLaws.{served_early, served_said}
use Rattle.fr_cli.proofs.VisitLaws.{sink, source}
use Rattle.fr_cli.proofs.jobs.serve.listen.Goals as goal

pub returns-in_err-engine-clause-served : goal.returns-in_err-engine-clause-served
returns-in_err-engine-clause-served g c =
    let fault = c.in_err-engine.field-0.0 in
    let is : c.from_residual.result ≡ Err fault = search rules in
    let lacks : fault ≡ NoMemory = search rules in
    let listener = c.args.listener.now in
    let came_in = λ (visits : List Visit).
    AreVisitedAt g.L.Listener (source g.L.Reader.Read g.L.Reader.Source) (sink g.L.Writer.Write g.L.Writer.Sink) c.args.service.port c.args.service.seconds listener visits listener in
    served_early _ c.args.service.count _ _ _ came_in (outlet (sink g.E.Write g.E.Sink) c.args.err.now c.args.err.now) c.from_residual.result fault refl is
    (inr (inr (refl, inl lacks))) (inl (refl, refl)) refl

pub returns-in_err-begin-clause-served : goal.returns-in_err-begin-clause-served
returns-in_err-begin-clause-served g c =
    let fault = c.in_err-begin.field-0.0 in
    let is : c.from_residual-in_err-begin.result ≡ Err fault = search rules in
    let (refused, stood) = c.in_err-begin.ensures.refused in
    let came_in = λ (visits : List Visit).
    AreVisitedAt g.L.Listener (source g.L.Reader.Read g.L.Reader.Source) (sink g.L.Writer.Write g.L.Writer.Sink) c.args.service.port c.args.service.seconds c.args.listener.now visits c.begin.new.listener in
    served_early _ c.args.service.count _ _ _ came_in (outlet (sink g.E.Write g.E.Sink) c.args.err.now c.args.err.now) c.from_residual-in_err-begin.result fault refl is
    (inl (c.in_err-begin.ensures.fault, inl (refused, stood))) (inl (refl, stood)) refl

pub returns-in_err-announce-clause-served : goal.returns-in_err-announce-clause-served
returns-in_err-announce-clause-served g c =
    let fault = c.in_err-announce.field-0.0 in
    let is : c.from_residual-in_err-announce.result ≡ Err fault = search rules in
    let came_in = λ (visits : List Visit).
    AreVisitedAt g.L.Listener (source g.L.Reader.Read g.L.Reader.Source) (sink g.L.Writer.Write g.L.Writer.Sink) c.args.service.port c.args.service.seconds c.args.listener.now visits c.begin.new.listener in
    served_early _ c.args.service.count _ _ _ came_in (outlet (sink g.E.Write g.E.Sink) c.args.err.now c.args.err.now)
    c.from_residual-in_err-announce.result fault refl is (inr (inr (refl, c.in_err-announce.ensures.fault))) (inr (c.begin.new.listener, c.in_ok-begin.ensures.ok, refl)) refl

pub returns-clause-served : goal.returns-clause-served
returns-clause-served g c =
    served_said _ _ _ _ _ _ _ _ _ _ c.in_ok-announce.ensures.announced.1 (λ visits came. inr (c.begin.new.listener, c.in_ok-begin.ensures.ok, came)) (λ ended. inr ended)
    c.answer_all.ensures.served
