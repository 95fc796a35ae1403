use Rattle.std.proofs.Common.{rules, inl, inr}
use Rattle.fr_world.proofs.ReadLaws.{reads_then}
use Rattle.fr_office.specs.Deliveries.{CarriesFile, GivesFile}
use Rattle.fr_office.proofs.CallLaws.{delivery_refused}
use Rattle.fr_office.proofs.DeliveryLaws.{IsNew, after_rows, count_lacked, label_again, label_free, label_stopped, label_taken, no_room, page_stopped, rows_given, rows_left}
use Rattle.fr_office.proofs.RowsLaws.{has_some, some_has, some_of}
use Rattle.fr_office.proofs.deliveries.deliver.Goals as goal

pub returns-in_err-rows : goal.returns-in_err-rows
returns-in_err-rows g c =
    let records = g.R.Records in
    let d = c.args.delivery.now in
    let old = c.args.records.now in
    let mid = c.rows_kept.new.records in
    delivery_refused records old mid c.rows_kept.ensures.reads c.from_residual.result c.in_err-rows.field-0.0 (search rules) d d.how (λ clean.
    label_stopped d d.how (records.stands old) (records.stands mid) c.in_err-rows.field-0.0 (c.in_err-rows.ensures.told clean))

pub returns-in-Some : goal.returns-in-Some
returns-in-Some g c =
    let records = g.R.Records in
    let d = c.args.delivery.now in
    let old = c.args.records.now in
    let mid = c.rows_kept.new.records in
    record {
      falls = c.rows_kept.ensures.reads.falls;
      serves = λ clean. label_taken d d.how (records.stands old) (records.stands mid) c.in_ok-rows.field-0 c.in-Some.rows (records.serves mid) (search rules) (c.in_ok-rows.ensures.told clean);
      leaves = λ clean cl b books stood sound known left. inl (c.rows_kept.ensures.reads.leaves clean cl books left);
      gives = λ clean. label_again d d.how (records.stands old) (records.stands mid) c.in_ok-rows.field-0 c.in-Some.rows (search rules) (c.in_ok-rows.ensures.told clean);
    }

pub returns-in_err-kept : goal.returns-in_err-kept
returns-in_err-kept g c =
    let records = g.R.Records in
    let d = c.args.delivery.now in
    let old = c.args.records.now in
    let mid = c.rows_kept.new.records in
    let next = c.imports_kept.new.records in
    delivery_refused records old next (search (rules, reads_then)) c.from_residual-in_err-kept.result c.in_err-kept.field-0.0 (search rules) d d.how (λ clean.
    let new : IsNew (records.stands old) (records.stands mid) d d.how = label_free d d.how (records.stands old) (records.stands mid) c.in_ok-rows.field-0 (search rules) (c.in_ok-rows.ensures.told (c.imports_kept.ensures.reads.falls clean)) in
    count_lacked d d.how (records.stands old) (records.stands mid) new (records.stands next) c.imports_kept.result c.in_err-kept.field-0.0 (search rules) (c.imports_kept.ensures.told clean))

pub returns-in_err-open_page : goal.returns-in_err-open_page
returns-in_err-open_page g c =
    let records = g.R.Records in
    let d = c.args.delivery.now in
    let old = c.args.records.now in
    let mid = c.rows_kept.new.records in
    let next = c.imports_kept.new.records in
    let last = c.open_page.new.records in
    delivery_refused records old last (search (rules, reads_then)) c.from_residual-in_err-open_page.result c.in_err-open_page.field-0.0 (search rules) d d.how (λ clean.
    let clean_next = c.open_page.ensures.opens.reads.falls clean in
    let new : IsNew (records.stands old) (records.stands mid) d d.how = label_free d d.how (records.stands old) (records.stands mid) c.in_ok-rows.field-0 (search rules) (c.in_ok-rows.ensures.told (c.imports_kept.ensures.reads.falls clean_next)) in
    page_stopped d d.how (records.stands old) (records.stands mid) new (records.stands next) c.in_ok-kept.kept (c.in_ok-kept.ensures.told clean_next) (records.stands last) (g.R.Lender.lent last) c.in_err-open_page.field-0.0 (c.in_err-open_page.ensures.opens.told clean))

pub returns-in_err-admit_file : goal.returns-in_err-admit_file
returns-in_err-admit_file g c =
    let records = g.R.Records in
    let d = c.args.delivery.now in
    let old = c.args.records.now in
    let mid = c.rows_kept.new.records in
    let next = c.imports_kept.new.records in
    let last = c.open_page.new.records in
    let page = some_of (g.R.Lender.lent last) c.in_ok-open_page.ensures.lent in
    delivery_refused records old last (search (rules, reads_then)) c.from_residual-in_err-admit_file.result c.in_err-admit_file.field-0.0 (search rules) d d.how (λ clean.
    let clean_next = c.open_page.ensures.opens.reads.falls clean in
    let new : IsNew (records.stands old) (records.stands mid) d d.how = label_free d d.how (records.stands old) (records.stands mid) c.in_ok-rows.field-0 (search rules) (c.in_ok-rows.ensures.told (c.imports_kept.ensures.reads.falls clean_next)) in
    no_room d d.how (records.stands old) (records.stands mid) new (records.stands next) c.in_ok-kept.kept (c.in_ok-kept.ensures.told clean_next) (records.stands last) (g.R.Lender.lent last) page.0 page.1 (c.in_ok-open_page.ensures.opens.told clean) c.in_err-admit_file.field-0.0 (search rules))

pub returns : goal.returns
returns g c =
    let records = g.R.Records in
    let d = c.args.delivery.now in
    let old = c.args.records.now in
    let mid = c.rows_kept.new.records in
    let next = c.imports_kept.new.records in
    let last = c.open_page.new.records in
    let new_records = c.decide.new.records in
    let lent = g.R.Lender.lent last in
    let page = some_of lent c.in_ok-open_page.ensures.lent in
    let rows : CarriesFile records d d.how last new_records c.decide.result page.0 = some_has (CarriesFile records d d.how last new_records c.decide.result) lent page.0 page.1 c.decide.ensures in
    record {
      falls = λ clean. c.rows_kept.ensures.reads.falls (c.imports_kept.ensures.reads.falls (c.open_page.ensures.opens.reads.falls (rows.falls clean)));
      serves = λ clean. after_rows (records.stands old) d d.how (records.serves new_records) c.decide.result (rows.serves clean);
      leaves = λ clean cl b books stood sound known left.
          let clean_last = rows.falls clean in
          let clean_next = c.open_page.ensures.opens.reads.falls clean_last in
          let clean_mid = c.imports_kept.ensures.reads.falls clean_next in
          let new : IsNew (records.stands old) (records.stands mid) d d.how = label_free d d.how (records.stands old) (records.stands mid) c.in_ok-rows.field-0 (search rules) (c.in_ok-rows.ensures.told clean_mid) in
          let so = rows_left d d.how (records.stands old) (records.stands mid) new (records.stands next) c.in_ok-kept.kept (c.in_ok-kept.ensures.told clean_next) (records.stands last) lent page.0 page.1 (c.in_ok-open_page.ensures.opens.told clean_last) (search rules) cl b stood sound known in
          let before = c.open_page.ensures.opens.reads.leaves clean_last cl books (c.imports_kept.ensures.reads.leaves clean_next cl books (c.rows_kept.ensures.reads.leaves clean_mid cl books left)) in
          elim (rows.leaves clean cl b books so.0 sound known so.1 so.2 before) [
            | inl stays ↦ inl stays
            | inr more ↦ inr (_, so.3, more)
          ];
      gives = λ clean.
          let clean_last = rows.falls clean in
          let clean_next = c.open_page.ensures.opens.reads.falls clean_last in
          let new : IsNew (records.stands old) (records.stands mid) d d.how = label_free d d.how (records.stands old) (records.stands mid) c.in_ok-rows.field-0 (search rules) (c.in_ok-rows.ensures.told (c.imports_kept.ensures.reads.falls clean_next)) in
          rows_given d d.how (records.stands old) (records.stands mid) new (records.stands next) c.in_ok-kept.kept (c.in_ok-kept.ensures.told clean_next) (records.stands last) lent page.0 page.1 (c.in_ok-open_page.ensures.opens.told clean_last) (search rules)
          (records.stands new_records) c.decide.result (has_some (GivesFile (records.stands last) (records.stands new_records) c.decide.result d d.how) lent page.0 page.1 (rows.gives clean));
    }
