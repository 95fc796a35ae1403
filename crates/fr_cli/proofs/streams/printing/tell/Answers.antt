use Rattle.std.proofs.Common.{◌∙◌, Err, ap, refl, subst, sym}
use Rattle.fr_cli.specs.Endings.{IsPrinted, IsTold}
use Rattle.fr_cli.specs.Outlets.{IsPut, outlet}
use Rattle.fr_cli.proofs.VisitLaws.{sink}
use Rattle.fr_cli.proofs.streams.printing.tell.Goals as goal

pub returns-in-Ok : goal.returns-in-Ok
returns-in-Ok g c =
    let out = outlet (sink g.O.Write g.O.Sink) c.args.out.now c.print_all.new.out in
    let err = outlet (sink g.E.Write g.E.Sink) c.args.err.now c.print_all.new.err in
    let status = c.print_all.result in
    subst (λ done. IsTold out err done status) (sym c.in-Ok.is) (subst (λ text. IsPrinted out err text status) c.deref.ensures.value c.print_all.ensures)

pub returns-in-Err-RefusedRows : goal.returns-in-Err-RefusedRows
returns-in-Err-RefusedRows g c =
    let all = c.print_all-in-Err-RefusedRows in
    let out = outlet (sink g.O.Write g.O.Sink) c.args.out.now all.new.out in
    let err = outlet (sink g.E.Write g.E.Sink) c.args.err.now all.new.err in
    let rows = c.in-Err-RefusedRows in
    subst (λ done. IsTold out err done 1) (sym (rows.is ∙ ap (λ f. Err f) rows.field-0-is))
    (refl, (all.result, subst (λ text. IsPrinted out err text all.result) c.deref-in-Err-RefusedRows.ensures.value all.ensures))

pub returns-in-Err-UnplacedWishes : goal.returns-in-Err-UnplacedWishes
returns-in-Err-UnplacedWishes g c =
    let said = c.print.new.writer in
    let all = c.print_all-in-Err-UnplacedWishes in
    let out = outlet (sink g.O.Write g.O.Sink) c.args.out.now all.new.out in
    let err = outlet (sink g.E.Write g.E.Sink) c.args.err.now all.new.err in
    let first = outlet (sink g.E.Write g.E.Sink) c.args.err.now said in
    let later = outlet (sink g.E.Write g.E.Sink) said all.new.err in
    let wishes = c.in-Err-UnplacedWishes in
    let lines : IsPut first wishes.lines.items c.print.result = subst (λ text. IsPut first text c.print.result) c.deref-in-Err-UnplacedWishes.ensures.value c.print.ensures in
    let file : IsPrinted out later wishes.file.items all.result = subst (λ text. IsPrinted out later text all.result) c.deref-in-Err-UnplacedWishes-2.ensures.value all.ensures in
    subst (λ done. IsTold out err done 1) (sym (wishes.is ∙ ap (λ f. Err f) wishes.field-0-is)) (refl, (said, all.result, (c.print.result, lines), file))

pub returns-in-Err-Refused : goal.returns-in-Err-Refused
returns-in-Err-Refused g c =
    let out = outlet (sink g.O.Write g.O.Sink) c.args.out.now c.args.out.now in
    let err = outlet (sink g.E.Write g.E.Sink) c.args.err.now c.print-in-Err-Refused.new.writer in
    let refused = c.in-Err-Refused in
    let done = c.print-in-Err-Refused.result in
    subst (λ done. IsTold out err done 1) (sym (refused.is ∙ ap (λ f. Err f) refused.field-0-is))
    (refl, refl, (done, subst (λ text. IsPut err text done) c.deref-in-Err-Refused.ensures.value c.print-in-Err-Refused.ensures))
