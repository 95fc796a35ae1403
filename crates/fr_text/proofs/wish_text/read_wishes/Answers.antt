use Rattle.std.proofs.Common.{◌≡◌, ◌∙◌, ◌∷◌, [], Err, take, sym, rules}
use Rattle.std.specs.Prelude.{true, false}
use Rattle.fr_base.specs.ImportRows.{records_of}
use Rattle.fr_base.specs.Wishes.{wish_at, wishes_below, wishes_of_records}
use Rattle.fr_base.specs.declared.refusal.Refusal.TheVariants.{BadText}
use Rattle.fr_text.specs.ImportText.{lines_from}
use Rattle.fr_text.proofs.WishTextLemmas.{wishes-all, wishes-other}
use Rattle.fr_text.proofs.wish_text.read_wishes.Goals as goal
use Rattle.fr_text.proofs.wish_text.read_wishes.Goals.{then-branch+in_ok-push_all, else-branch+in_ok-push}

pub returns : goal.returns
returns c =
    let p = c.args.params.now in
    elim c.if-branch.branch [
      | then-branch+in_ok-push_all w ↦
          let wishes : c.if-branch.wishes ≡ take 513 (lines_from (λ n fields. record { line = n; wish = wish_at p n fields }) 2 c.has_header.new.records) = search rules in
          let header : wishes_of_records p (records_of c.args.body.now) ≡ wishes_below p true c.has_header.new.records = search rules in
          wishes ∙ sym (wishes-all p c.args.body.now _ header)
      | else-branch+in_ok-push w ↦
          let wishes : c.if-branch.wishes ≡ record { line = 1; wish = Err BadText } ∷ [] = search rules in
          let header : wishes_of_records p (records_of c.args.body.now) ≡ wishes_below p false c.has_header.new.records = search rules in
          wishes ∙ sym (wishes-other p c.args.body.now _ header)
    ]
