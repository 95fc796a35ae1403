use Rattle.std.proofs.Common.{rules, arith, ◌≡◌, ◌∙◌, ◌≤◌, List, Ok, length, ap, sym, subst, false}
use Rattle.fr_base.specs.ImportRows.{header_of_body, up_to_refused}
use Rattle.fr_base.specs.declared.import.RowRead.{RowRead}
use Rattle.fr_base.specs.declared.limits.TheConstants.{MAX_ROWS}
use Rattle.fr_world.specs.FileDecisions.{IsActed, file_edits}
use Rattle.fr_office.specs.Decided.{LeadsTo}
use Rattle.fr_office.specs.Deliveries.{CarriesFile, acted_answer, edits_of_file, rows_on}
use Rattle.fr_office.proofs.DeliveryLaws.{acted_rows, few_rows_act, file_leads, rows_acted, rows_stay, serves_acted}
use Rattle.fr_office.proofs.RowsLaws.{has_some, some_has}
use Rattle.fr_office.proofs.deliveries.decide_rows.Goals as goal

pub overflow_cast-count : goal.overflow_cast-count
overflow_cast-count g c =
    let d = c.args.delivery.now in
    let page = c.lent-page.result.now in
    let header = c.in_ok-header.header in
    let edits = c.in-Ok-Acts.draft.edits.items in
    let acted : IsActed c.args.delivery.now.how c.lent-page.result.now c.in_ok-header.header c.in_ok-rows.rows c.in-Ok-Acts.draft = search rules in
    let read : c.in_ok-rows.rows ≡ rows_on page d = search rules in
    let decided : file_edits d.how page header (rows_on page d) ≡ Ok edits = subst (λ (rows : List RowRead). file_edits d.how page header rows ≡ Ok edits) read acted.edits in
    let few : length (rows_on page d) ≤ MAX_ROWS = (few_rows_act d.how page header d.body edits acted.acts c.requires.rows decided).0 in
    let counted : c.len-count.result ≡ length c.in_ok-rows.rows = search rules in
    let same : c.len-count.result ≡ length (rows_on page d) = counted ∙ ap length read in
    omega (arith, few, same)

pub carry_out-requires-clause-leads : goal.carry_out-requires-clause-leads
carry_out-requires-clause-leads g c =
    let d = c.args.delivery.now in
    let page = c.lent-page.result.now in
    let draft = c.in-Ok-Acts.draft in
    let acted : IsActed c.args.delivery.now.how c.lent-page.result.now c.in_ok-header.header c.in_ok-rows.rows c.in-Ok-Acts.draft = search rules in
    let count = c.len-count.result in
    has_some (λ page. LeadsTo page (edits_of_file d d.how draft.edits.items count) draft.page) (g.R.Lender.lent c.args.records.now) page c.lent-page.ensures
    (file_leads d d.how count page draft.page draft.edits.items acted.leads acted.same acted.still)

pub returns-in-Ok-Acts : goal.returns-in-Ok-Acts
returns-in-Ok-Acts g c =
    let records = g.R.Records in
    let old = c.args.records.now in
    let new = c.carry_out.new.records in
    let lent = g.R.Lender.lent old in
    let d = c.args.delivery.now in
    let page = c.lent-page.result.now in
    let header = c.in_ok-header.header in
    let edits = c.in-Ok-Acts.draft.edits.items in
    let count = c.len-count.result in
    let acted : IsActed c.args.delivery.now.how c.lent-page.result.now c.in_ok-header.header c.in_ok-rows.rows c.in-Ok-Acts.draft = search rules in
    let unreleased : page.released ≡ false = some_has (λ page. page.released ≡ false) lent page c.lent-page.ensures c.requires.open in
    let read : c.in_ok-rows.rows ≡ rows_on page d = search rules in
    let headed : header ≡ header_of_body d.body = search rules in
    let counted : count ≡ length c.in_ok-rows.rows = search rules in
    let so = acted_rows d d.how page header c.in_ok-rows.rows edits count acted.acts c.requires.rows read headed counted acted.edits in
    has_some (CarriesFile records d d.how old new c.carry_out.result) lent page c.lent-page.ensures (record {
      falls = c.carry_out.ensures.falls;
      serves = λ clean. serves_acted (records.serves new) c.carry_out.result (c.carry_out.ensures.serves clean);
      leaves = λ clean. rows_stay d d.how page edits count acted.acts c.requires.rows so.0 unreleased so.1 (records.stands old) (records.leaves old) (records.leaves new) (c.carry_out.ensures.leaves clean);
      gives = λ clean. rows_acted d d.how page edits count acted.acts c.requires.rows so.0 unreleased so.1 (records.stands old) (records.stands new) c.carry_out.result (c.carry_out.ensures.applies clean);
    })
