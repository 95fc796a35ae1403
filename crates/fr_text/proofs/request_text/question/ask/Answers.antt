use Rattle.std.proofs.Common.{rules}
use Rattle.fr_base.proofs.QueryLemmas.{query_made}
use Rattle.fr_base.specs.QueryNames.{name_of_field}
use Rattle.fr_text.specs.Fields.{fields_in, number, text}
use Rattle.fr_text.proofs.request_text.question.ask.Goals as goal

pub returns : goal.returns
returns c =
    let o = fields_in c.args.fields.now in
    let made = query_made (λ name. text o (name_of_field name)) (λ name. number o (name_of_field name)) c.args.question.now c.read.result c.read.ensures in
    search rules
