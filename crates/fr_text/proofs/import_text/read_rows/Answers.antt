use Rattle.std.proofs.Common.{◌≡◌, ◌∙◌, ◌∷◌, [], Some, None, Err, take, sym, ap, rules}
use Rattle.fr_base.specs.ImportRows.{records_of, row_at, rows_below, rows_of_records}
use Rattle.fr_base.specs.declared.refusal.Refusal.TheVariants.{BadText}
use Rattle.fr_text.specs.ImportText.{lines_from}
use Rattle.fr_text.proofs.ImportTextLemmas.{all-other, all-rows, rows-lines}
use Rattle.fr_text.proofs.import_text.read_rows.Goals as goal
use Rattle.fr_text.proofs.import_text.read_rows.Goals.{in-Some+in_ok-push_all-in-Some, in-None+in_ok-push-in-None}

pub returns : goal.returns
returns c =
    elim c.match-branch-2.branch [
      | in-Some+in_ok-push_all-in-Some w ↦
          let rows : c.match-branch-2.rows ≡ take 513 (lines_from (λ n fields. record { line = n; row = row_at c.args.params.now w.in-Some.header n fields }) 2 c.first_header.new.records) = search rules in
          let header : rows_of_records c.args.params.now (records_of c.args.body.now) ≡ rows_below c.args.params.now (Some w.in-Some.header) c.first_header.new.records = search rules in
          rows ∙ ap (take 513) (sym (rows-lines c.args.params.now w.in-Some.header 2 c.first_header.new.records)) ∙ sym (all-rows c.args.params.now c.args.body.now _ _ header)
      | in-None+in_ok-push-in-None w ↦
          let rows : c.match-branch-2.rows ≡ record { line = 1; row = Err BadText } ∷ [] = search rules in
          let header : rows_of_records c.args.params.now (records_of c.args.body.now) ≡ rows_below c.args.params.now None c.first_header.new.records = search rules in
          rows ∙ sym (all-other c.args.params.now c.args.body.now _ header)
    ]
