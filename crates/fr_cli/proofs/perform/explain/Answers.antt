use Rattle.std.proofs.Common.{◌≡◌, ℕ, List, refl, rules, subst}
use Rattle.fr_cli.specs.Endings.{IsPrinted}
use Rattle.fr_cli.specs.Outlets.{IsPut, outlet}
use Rattle.fr_cli.proofs.VisitLaws.{sink}
use Rattle.fr_cli.proofs.perform.explain.Goals as goal

pub returns-in-Help-clause-help : goal.returns-in-Help-clause-help
returns-in-Help-clause-help g c = λ text is.
    let out = outlet (sink g.O.Write g.O.Sink) c.args.out.now c.print_all.new.out in
    let err = outlet (sink g.E.Write g.E.Sink) c.args.err.now c.print_all.new.err in
    let same : c.as_bytes.result.now ≡ text.bytes.items = search rules in
    subst (λ (t : List ℕ). IsPrinted out err t c.print_all.result) same c.print_all.ensures

pub returns-in-Usage-clause-usage : goal.returns-in-Usage-clause-usage
returns-in-Usage-clause-usage g c = λ text is.
    let err = outlet (sink g.E.Write g.E.Sink) c.args.err.now c.print.new.writer in
    let same : c.as_bytes-in-Usage.result.now ≡ text.bytes.items = search rules in
    (refl, refl, (c.print.result, subst (λ (t : List ℕ). IsPut err t c.print.result) same c.print.ensures))
