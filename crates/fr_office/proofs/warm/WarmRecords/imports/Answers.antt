use Rattle.std.proofs.Common.{◌∙◌, rules, sym}
use Rattle.fr_office.proofs.WarmLaws.{count_known, count_lacked, count_read}
use Rattle.fr_office.proofs.warm.WarmRecords.imports.Goals as goal

pub returns-in-Some-clause-imports : goal.returns-in-Some-clause-imports
returns-in-Some-clause-imports g c = λ clean.
    count_known g.R.Records.stands _ c.args.self.now c.self.view_is c.args.supplier c.in-Some.count (sym c.of.ensures ∙ c.in-Some.is)

pub returns-in_err-count-clause-imports : goal.returns-in_err-count-clause-imports
returns-in_err-count-clause-imports g c = λ clean.
    count_lacked g.R.Records.stands _ c.args.self.now c.self.view_is c.args.supplier (g.R.Records.stands c.imports.new.self) c.from_residual.result c.imports.result c.in_err-count.field-0.0
    (search rules) (search rules) (c.imports.ensures.imports clean)

pub returns-clause-imports : goal.returns-clause-imports
returns-clause-imports g c = λ clean.
    count_read g.R.Records.stands _ c.args.self.now c.self.view_is c.args.supplier (g.R.Records.stands c.imports.new.self) c.imports.result c.in_ok-count.count (search rules)
    (c.imports.ensures.imports clean) c.note.new.self c.note.ensures
