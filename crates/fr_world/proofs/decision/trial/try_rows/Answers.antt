use Rattle.std.proofs.Common.{◌≡◌, ◌∙◌, ◌+◌, ◌++◌, ◌∷◌, [], IfOk, drop, sym, ap, subst, rules, arith}
use Rattle.std.proofs.lemmas.List.{drop_more, drop_all}
use Rattle.fr_base.specs.declared.import.RowRead.{RowRead}
use Rattle.fr_world.specs.Drafts.{draft_data}
use Rattle.fr_world.specs.RowDecisions.{IsCheckedRow, draft_of}
use Rattle.fr_world.specs.Trials.{fates_of, trial}
use Rattle.fr_world.proofs.TrialRows.{fate-params, fates-end, fates-more, trial-begins, tried-params}
use Rattle.fr_world.proofs.decision.trial.try_rows.Goals as goal

pub loop-read-init : goal.loop-read-init
loop-read-init c =
    let is = c.in_ok-draft.ensures in
    let rows = c.args.rows.now in
    let how = c.args.how in (
      ap (λ l. l ++ fates_of how (draft_data c.in_ok-draft.draft) rows) c.new-fates.ensures ∙ trial-begins how c.args.page c.args.header rows (draft_data c.in_ok-draft.draft) is,
      ap (λ d. d.page.params) is ∙ tried-params how (draft_of c.args.page) c.args.header rows,
    )

pub fate_of-requires : goal.fate_of-requires
fate_of-requires c = record {
  checked = subst (λ p. IfOk c.read-item.result.row (IsCheckedRow p)) (sym c.loop-read.invariant.1)
      (subst (λ (r : RowRead). IfOk r.row (IsCheckedRow c.args.page.params)) (sym c.read-item.is) (c.requires.checked c.loop-read.read-index c.read-item.result c.loop-read-test.true));
}

pub loop-read-preserved : goal.loop-read-preserved
loop-read-preserved c =
    let rows = c.args.rows.now in
    let how = c.args.how in
    let i = c.loop-read.read-index in
    let d = draft_data c.loop-read.draft in
    let m = draft_data c.fate_of.new.draft in
    let fate = c.in_ok-fate.fate in
    let next : drop i rows ≡ c.read-item.result ∷ drop (i + 1) rows = drop_more rows i c.read-item.result c.loop-read-test.true ∙ ap (λ r. r ∷ drop (i + 1) rows) (sym c.read-item.is) in
    let made = c.in_ok-fate.ensures in (
      fates-more how d c.read-item.result m fate made c.loop-read.fates c.push.new.self (trial how c.args.page c.args.header rows) (drop (i + 1) rows)
          (ap (λ reads. c.loop-read.fates ++ fates_of how d reads) (sym next) ∙ c.loop-read.invariant.0) (search rules),
      fate-params how d c.read-item.result m fate made ∙ c.loop-read.invariant.1,
    )

pub returns : goal.returns
returns c =
    let how = c.args.how in
    let d = draft_data c.loop-read.draft in
    let over = c.loop-read-test.false in
    let none : drop c.loop-read.read-index c.args.rows.now ≡ [] = drop_all c.loop-read.read-index c.args.rows.now (omega (arith, over)) in
    fates-end how d c.loop-read.fates (trial how c.args.page c.args.header c.args.rows.now)
    (ap (λ reads. c.loop-read.fates ++ fates_of how d reads) (sym none) ∙ c.loop-read.invariant.0)
