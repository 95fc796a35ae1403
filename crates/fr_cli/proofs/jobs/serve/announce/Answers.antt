use Rattle.std.proofs.Common.{◌≡◌, ◌⊎◌, ℕ, IfErr, List, Err, Ok, inr, refl, rules, subst, sym}
use Rattle.std.specs.Prelude.{OnOk}
use Rattle.fr_cli.specs.Outlets.{IsCutShort, IsPut, outlet}
use Rattle.fr_cli.specs.Performing.{listening}
use Rattle.fr_cli.specs.Serving.{WasAnnounced}
use Rattle.fr_cli.specs.declared.fault.Fault.TheVariants.{NoMemory, WriteFailed}
use Rattle.fr_cli.proofs.VisitLaws.{sink}
use Rattle.fr_cli.proofs.jobs.serve.announce.Goals as goal

pub returns-in_err-print-clause-announced : goal.returns-in_err-print-clause-announced
returns-in_err-print-clause-announced g c =
    let out = outlet (sink g.O.Write g.O.Sink) c.args.out.now c.print.new.writer in
    let line : c.as_bytes.result.now ≡ listening c.args.port = search rules in
    let put = subst (λ (text : List ℕ). IsPut out text c.print.result) line c.print.ensures in
    let is : c.from_residual-in_err-print.result ≡ Err WriteFailed = search rules in
    (inr (tt, (c.print.result, put)), subst (λ done. OnOk done (WasAnnounced c.args.port out)) (sym is) tt)

pub returns-in_err-print-clause-fault : goal.returns-in_err-print-clause-fault
returns-in_err-print-clause-fault g c =
    let out = outlet (sink g.O.Write g.O.Sink) c.args.out.now c.print.new.writer in
    let line : c.as_bytes.result.now ≡ listening c.args.port = search rules in
    let put = subst (λ (text : List ℕ). IsPut out text c.print.result) line c.print.ensures in
    let is : c.from_residual-in_err-print.result ≡ Err WriteFailed = search rules in
    let why = c.in_err-print.field-0.0 in
    let failed : c.print.result ≡ Err why = search rules in
    subst (λ done. IfErr done (λ fault. (fault ≡ NoMemory) ⊎ ((fault ≡ WriteFailed) × IsCutShort out (listening c.args.port)))) (sym is)
    (inr (refl, (why, subst (IsPut out (listening c.args.port)) failed put)))

pub returns-clause-announced : goal.returns-clause-announced
returns-clause-announced g c =
    let out = outlet (sink g.O.Write g.O.Sink) c.args.out.now c.print.new.writer in
    let line : c.as_bytes.result.now ≡ listening c.args.port = search rules in
    let put : IsPut out (listening c.args.port) c.print.result = subst (λ (text : List ℕ). IsPut out text c.print.result) line c.print.ensures in
    let was : c.print.result ≡ Ok tt = search rules in
    (inr (tt, (c.print.result, put)), subst (λ done. OnOk done (WasAnnounced c.args.port out)) was put.whole)
