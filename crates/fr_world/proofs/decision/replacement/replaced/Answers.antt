use Rattle.std.proofs.Common.{◌≡◌, ◌∙◌, ◌+◌, ◌∷◌, [], Err, IfErr, IfOk, drop, sym, ap, subst, rules, arith}
use Rattle.std.proofs.lemmas.List.{drop_more, drop_all}
use Rattle.fr_base.specs.declared.import.RowRead.{RowRead}
use Rattle.fr_world.specs.Drafts.{draft_data}
use Rattle.fr_world.specs.ReplacementDecisions.{begun, replace_rows}
use Rattle.fr_world.specs.RowDecisions.{IsCheckedRow, draft_of}
use Rattle.fr_world.specs.RowFaults.{IsFault}
use Rattle.fr_world.proofs.ReplacementRows.{begun-params, replaced-params, replace-fault, replace-next}
use Rattle.fr_world.proofs.decision.replacement.replaced.Goals as goal

pub loop-read-init : goal.loop-read-init
loop-read-init c =
    let rows = c.args.rows.now in
    let is : draft_data c.in_ok-draft.draft ≡ begun (draft_of c.args.page) c.args.whole rows = search rules in
    (ap (λ d. replace_rows d rows) (sym is), ap (λ d. d.page.params) is ∙ begun-params c.args.whole rows (draft_of c.args.page))

pub replace_read-requires : goal.replace_read-requires
replace_read-requires c = record {
  checked = subst (λ p. IfOk c.read-item.result.row (IsCheckedRow p)) (sym c.loop-read.invariant.1)
      (subst (λ (r : RowRead). IfOk r.row (IsCheckedRow c.args.page.params)) (sym c.read-item.is) (c.requires.checked c.loop-read.read-index c.read-item.result c.loop-read-test.true));
}

pub returns-in_err-replace_read-clause-fault : goal.returns-in_err-replace_read-clause-fault
returns-in_err-replace_read-clause-fault c =
    let rows = c.args.rows.now in
    let i = c.loop-read.read-index in
    let e = c.in_err-replace_read.field-0.0 in
    let next : drop i rows ≡ c.read-item.result ∷ drop (i + 1) rows = drop_more rows i c.read-item.result c.loop-read-test.true ∙ ap (λ r. r ∷ drop (i + 1) rows) (sym c.read-item.is) in
    let same : c.from_residual-in_err-replace_read.result ≡ Err e = search rules in
    subst (λ r. IfErr r (IsFault (replace_rows (begun (draft_of c.args.page) c.args.whole rows) rows))) (sym same)
    (subst (λ r. IsFault r e) (sym (c.loop-read.invariant.0 ∙ ap (replace_rows (draft_data c.loop-read.draft)) next))
    (replace-fault (draft_data c.loop-read.draft) c.read-item.result (drop (i + 1) rows) e c.in_err-replace_read.ensures.fault))

pub loop-read-preserved : goal.loop-read-preserved
loop-read-preserved c =
    let rows = c.args.rows.now in
    let i = c.loop-read.read-index in
    let d = draft_data c.loop-read.draft in
    let m = draft_data c.replace_read.new.draft in
    let next : drop i rows ≡ c.read-item.result ∷ drop (i + 1) rows = drop_more rows i c.read-item.result c.loop-read-test.true ∙ ap (λ r. r ∷ drop (i + 1) rows) (sym c.read-item.is) in
    let made = c.in_ok-replace_read.ensures.ok in (
      c.loop-read.invariant.0 ∙ ap (replace_rows d) next ∙ replace-next d m c.read-item.result (drop (i + 1) rows) made,
      replaced-params d m c.read-item.result made ∙ c.loop-read.invariant.1,
    )

pub returns-clause-ok : goal.returns-clause-ok
unfolding replace_rows
returns-clause-ok c =
    let d = draft_data c.loop-read.draft in
    let over = c.loop-read-test.false in
    let none : drop c.loop-read.read-index c.args.rows.now ≡ [] = drop_all c.loop-read.read-index c.args.rows.now (omega (arith, over)) in
    c.loop-read.invariant.0 ∙ ap (replace_rows d) none
