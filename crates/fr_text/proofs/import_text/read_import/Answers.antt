use Rattle.std.proofs.Common.{◌≡◌, ◌∙◌, ◌∷◌, [], Some, None, Err, sym, rules}
use Rattle.fr_base.specs.ImportRows.{records_of, rows_below, rows_from, rows_of_records, up_to_refused}
use Rattle.fr_base.specs.declared.refusal.Refusal.TheVariants.{BadText}
use Rattle.fr_text.proofs.ImportTextLemmas.{body-other, body-rows}
use Rattle.fr_text.proofs.import_text.read_import.Goals as goal
use Rattle.fr_text.proofs.import_text.read_import.Goals.{in-Some+in_ok-push_rows-in-Some, in-None+in_ok-push-in-None}

pub returns : goal.returns
returns c =
    elim c.match-branch-2.branch [
      | in-Some+in_ok-push_rows-in-Some w ↦
          let rows : c.match-branch-2.rows ≡ up_to_refused (rows_from c.args.params.now w.in-Some.header 2 c.first_header.new.records) = search rules in
          let header : rows_of_records c.args.params.now (records_of c.args.body.now) ≡ rows_below c.args.params.now (Some w.in-Some.header) c.first_header.new.records = search rules in
          rows ∙ sym (body-rows c.args.params.now c.args.body.now _ _ header)
      | in-None+in_ok-push-in-None w ↦
          let rows : c.match-branch-2.rows ≡ record { line = 1; row = Err BadText } ∷ [] = search rules in
          let header : rows_of_records c.args.params.now (records_of c.args.body.now) ≡ rows_below c.args.params.now None c.first_header.new.records = search rules in
          rows ∙ sym (body-other c.args.params.now c.args.body.now _ header)
    ]
