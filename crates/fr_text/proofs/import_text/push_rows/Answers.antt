use Rattle.std.proofs.Common.{◌≡◌, ◌∙◌, ◌+◌, ◌++◌, ◌∷◌, [], List, Err, sym, refl, ap, rules, arith}
use Rattle.std.specs.Prelude.{true, false}
use Rattle.std.specs.Result.{is_ok}
use Rattle.csv.specs.Records.{fields_of}
use Rattle.fr_base.specs.ImportRows.{row_of, rows_from, up_to_refused}
use Rattle.fr_base.specs.declared.import.RowRead.{RowRead}
use Rattle.fr_base.specs.declared.refusal.Refusal.TheVariants.{Limit}
use Rattle.fr_text.proofs.ImportTextLemmas.{rows-done, rows-more, rows-refused, rows-over, refused-where, read-where}
use Rattle.fr_text.proofs.import_text.push_rows.Goals as goal
use Rattle.fr_text.proofs.import_text.push_rows.Goals.{then-branch+in_ok-push, else-branch}

pub loop-line-init : goal.loop-line-init
loop-line-init c = refl

pub returns-then-not-branch : goal.returns-then-not-branch
returns-then-not-branch c =
    let none : c.loop-line.records ≡ [] = search rules in
    rows-done c.args.params.now c.args.header c.loop-line.line c.loop-line.rows c.loop-line.records _ c.loop-line.invariant none

pub returns-then-not-branch-2 : goal.returns-then-not-branch-2
returns-then-not-branch-2 c =
    let fields = fields_of c.read.new.fields in
    let row = row_of c.args.params.now c.args.header fields in
    let some : c.loop-line.records ≡ fields ∷ c.read.new.self = search rules in
    let refused : is_ok row ≡ false = sym c.in_ok-push_row.ensures.read ∙ c.if-not-branch-2.true in
    c.in_ok-push_row.ensures.rows
    ∙ rows-refused c.args.params.now c.args.header c.loop-line.line c.loop-line.rows c.loop-line.records _ _ _ row
    c.loop-line.invariant some (omega arith) refl (refused-where row refused)

pub loop-line-preserved : goal.loop-line-preserved
loop-line-preserved c =
    let fields = fields_of c.read.new.fields in
    let row = row_of c.args.params.now c.args.header fields in
    let some : c.loop-line.records ≡ fields ∷ c.read.new.self = search rules in
    let read : is_ok row ≡ true = sym c.in_ok-push_row.ensures.read ∙ c.if-not-branch-2.false in
    ap (λ (rows : List RowRead). rows ++ up_to_refused (rows_from c.args.params.now c.args.header (c.loop-line.line + 1) c.read.new.self)) c.in_ok-push_row.ensures.rows
    ∙ rows-more c.args.params.now c.args.header c.loop-line.line c.loop-line.rows c.loop-line.records _ _ _ row
    c.loop-line.invariant some (omega arith) refl (read-where row read)

pub returns : goal.returns
returns c =
    elim c.if-branch.branch [
      | then-branch+in_ok-push w ↦
          let some : c.loop-line.records ≡ fields_of c.read-2.new.fields ∷ c.read-2.new.self = search rules in
          let pushed : c.if-branch.rows ≡ c.loop-line.rows ++ record { line = 514; row = Err Limit } ∷ [] = search rules in
          pushed
          ∙ rows-over c.args.params.now c.args.header c.loop-line.line c.loop-line.rows c.loop-line.records _ _ _ c.loop-line.invariant some (omega arith)
      | else-branch w ↦
          let none : c.loop-line.records ≡ [] = search rules in
          w.rows-is
          ∙ rows-done c.args.params.now c.args.header c.loop-line.line c.loop-line.rows c.loop-line.records _ c.loop-line.invariant none
    ]
