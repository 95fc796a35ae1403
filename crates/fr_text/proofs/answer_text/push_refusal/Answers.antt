use Rattle.fr_text.proofs.AnswerTextLemmas.{text_of_refusal-plain}
use Rattle.fr_text.proofs.answer_text.push_refusal.Goals as goal

pub returns-in_default-clause-ok : goal.returns-in_default-clause-ok
returns-in_default-clause-ok c =
    rw (text_of_refusal-plain c.args.refusal.now c.in_default.not-CellTaken c.in_default.not-BitTaken)
    (rw (c.from.ensures, c.number.ensures, c.name.ensures) at c.push_plain.ensures.ok)
