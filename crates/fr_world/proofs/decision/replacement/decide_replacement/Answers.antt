use Rattle.std.proofs.Common.{◌≡◌, ◌∙◌, Ok, Err, IfErr, sym, ap, subst, rules, false}
use Rattle.std.specs.List.{list_any}
use Rattle.fr_base.specs.Refusing.{◌>>=◌}
use Rattle.fr_base.specs.Parameters.{check_params}
use Rattle.fr_world.specs.Drafts.{draft_data}
use Rattle.fr_world.specs.Edits.{Leads, releases}
use Rattle.fr_world.specs.PageEdits.{edits_between}
use Rattle.fr_world.specs.Pages.{own_rows_of}
use Rattle.fr_world.specs.ReplacementDecisions.{begun, replace_rows, replacement_decision}
use Rattle.fr_world.specs.RowDecisions.{draft_of}
use Rattle.fr_world.specs.RowFaults.{IsFault}
use Rattle.fr_world.proofs.DraftRows.{fault-on}
use Rattle.fr_world.proofs.ReplacementsLead.{replacement-between, replacement-led}
use Rattle.fr_world.proofs.RowsLead.{none-releases}
use Rattle.fr_world.proofs.SamePages.{between-itself}
use Rattle.fr_world.proofs.decision.replacement.decide_replacement.Goals as goal

pub returns-in_err-draft-clause-fault : goal.returns-in_err-draft-clause-fault
unfolding replacement_decision
returns-in_err-draft-clause-fault c =
    let page = c.args.page.now in
    let rows = c.args.rows.now in
    let e = c.in_err-draft.field-0.0 in
    let same : c.in_ok-copy.copy ≡ page = search rules in
    let told : c.from_residual-in_err-draft.result ≡ Err e = search rules in
    subst (λ r. IfErr r (IsFault (replacement_decision page c.args.whole rows))) (sym told)
    (fault-on (replace_rows (begun (draft_of page) c.args.whole rows) rows) _ e
    (subst (λ p. IsFault (replace_rows (begun (draft_of p) c.args.whole rows) rows) e) same c.in_err-draft.ensures.fault))

pub edits_between-requires : goal.edits_between-requires
edits_between-requires c =
    let page = c.args.page.now in
    let rows = c.args.rows.now in
    let draft = c.in_ok-draft.draft in
    let same : c.in_ok-copy.copy ≡ page = search rules in
    let made : replace_rows (begun (draft_of page) c.args.whole rows) rows ≡ Ok (draft_data draft) = ap (λ p. replace_rows (begun (draft_of p) c.args.whole rows) rows) (sym same) ∙ c.in_ok-draft.ensures.ok in
    let params = subst (λ p. check_params p ≡ Ok p) c.params.ensures c.raw-raw.ensures.checked in
    let led = replacement-led page params c.frames-frames.ensures.kept c.args.whole rows c.requires.checked (draft_data draft) made in
    record { same = record { supplier = led.supplier; variant = led.variant; released = led.released } }

pub returns-clause-edits : goal.returns-clause-edits
unfolding replacement_decision ◌>>=◌
returns-clause-edits c =
    let page = c.args.page.now in
    let rows = c.args.rows.now in
    let draft = c.in_ok-draft.draft in
    let same : c.in_ok-copy.copy ≡ page = search rules in
    let made : replace_rows (begun (draft_of page) c.args.whole rows) rows ≡ Ok (draft_data draft) = ap (λ p. replace_rows (begun (draft_of p) c.args.whole rows) rows) (sym same) ∙ c.in_ok-draft.ensures.ok in
    let is : c.in_ok-draft-2.field-0.items ≡ edits_between page.variant (own_rows_of page) (own_rows_of draft.page) = search rules in
    ap (λ r. r >>= λ last. Ok (edits_between page.variant (own_rows_of page) last.page)) made ∙ ap Ok (sym is)

pub returns-clause-leads : goal.returns-clause-leads
returns-clause-leads c =
    let page = c.args.page.now in
    let rows = c.args.rows.now in
    let draft = c.in_ok-draft.draft in
    let same : c.in_ok-copy.copy ≡ page = search rules in
    let made : replace_rows (begun (draft_of page) c.args.whole rows) rows ≡ Ok (draft_data draft) = ap (λ p. replace_rows (begun (draft_of p) c.args.whole rows) rows) (sym same) ∙ c.in_ok-draft.ensures.ok in
    let params = subst (λ p. check_params p ≡ Ok p) c.params.ensures c.raw-raw.ensures.checked in
    let led = replacement-led page params c.frames-frames.ensures.kept c.args.whole rows c.requires.checked (draft_data draft) made in
    let between = replacement-between page params c.frames-frames.ensures.kept c.args.whole rows c.requires.checked (draft_data draft) led in
    let is : c.in_ok-draft-2.field-0.items ≡ edits_between page.variant (own_rows_of page) (own_rows_of draft.page) = search rules in
    subst (λ edits. Leads page.variant (own_rows_of page) edits (own_rows_of draft.page)) (sym is) between.leads

pub returns-clause-none : goal.returns-clause-none
returns-clause-none c alike =
    let page = c.args.page.now in
    let draft = c.in_ok-draft.draft in
    let is : c.in_ok-draft-2.field-0.items ≡ edits_between page.variant (own_rows_of page) (own_rows_of draft.page) = search rules in
    is ∙ ap (edits_between page.variant (own_rows_of page)) alike ∙ between-itself page.variant (own_rows_of page)

pub returns-clause-page : goal.returns-clause-page
returns-clause-page c =
    let page = c.args.page.now in
    let rows = c.args.rows.now in
    let draft = c.in_ok-draft.draft in
    let same : c.in_ok-copy.copy ≡ page = search rules in
    let made : replace_rows (begun (draft_of page) c.args.whole rows) rows ≡ Ok (draft_data draft) = ap (λ p. replace_rows (begun (draft_of p) c.args.whole rows) rows) (sym same) ∙ c.in_ok-draft.ensures.ok in
    let params = subst (λ p. check_params p ≡ Ok p) c.params.ensures c.raw-raw.ensures.checked in
    let led = replacement-led page params c.frames-frames.ensures.kept c.args.whole rows c.requires.checked (draft_data draft) made in
    record { supplier = led.supplier; variant = led.variant; released = led.released }

pub returns-clause-still : goal.returns-clause-still
returns-clause-still c =
    let page = c.args.page.now in
    let rows = c.args.rows.now in
    let draft = c.in_ok-draft.draft in
    let same : c.in_ok-copy.copy ≡ page = search rules in
    let made : replace_rows (begun (draft_of page) c.args.whole rows) rows ≡ Ok (draft_data draft) = ap (λ p. replace_rows (begun (draft_of p) c.args.whole rows) rows) (sym same) ∙ c.in_ok-draft.ensures.ok in
    let params = subst (λ p. check_params p ≡ Ok p) c.params.ensures c.raw-raw.ensures.checked in
    let led = replacement-led page params c.frames-frames.ensures.kept c.args.whole rows c.requires.checked (draft_data draft) made in
    let between = replacement-between page params c.frames-frames.ensures.kept c.args.whole rows c.requires.checked (draft_data draft) led in
    let is : c.in_ok-draft-2.field-0.items ≡ edits_between page.variant (own_rows_of page) (own_rows_of draft.page) = search rules in
    subst (λ edits. list_any releases edits ≡ false) (sym is) (none-releases page.params (edits_between page.variant (own_rows_of page) (own_rows_of draft.page)) between.frames)
