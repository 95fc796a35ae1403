use Rattle.std.proofs.Common.{◌≡◌, ◌+◌, ◌∙◌, rules, sym}
use Rattle.fr_world.specs.BookEdits.{applied}
use Rattle.fr_world.specs.declared.edit.Edit.TheVariants.{KeepImport}
use Rattle.fr_office.proofs.CountLaws.{left_counted, more_counted}
use Rattle.fr_office.proofs.import_counts.ImportCounts.add_one.Goals as goal

pub returns-in_default : goal.returns-in_default
returns-in_default c = λ p b label variant body rows fits counted.
    left_counted p b c.args.supplier label variant body rows fits c.args.self.now counted c.take.new.self c.take.ensures.others

pub returns-in_default-checked_add : goal.returns-in_default-checked_add
returns-in_default-checked_add c = λ p b label variant body rows fits counted.
    left_counted p b c.args.supplier label variant body rows fits c.args.self.now counted c.take.new.self c.take.ensures.others

pub returns-in-Some-checked_add : goal.returns-in-Some-checked_add
returns-in-Some-checked_add c = λ p b label variant body rows fits counted.
    let one : c.in-Some-checked_add.more ≡ c.in-Some.count + 1 = search rules in
    c.note.ensures (applied b (KeepImport c.args.supplier label variant body rows)) (left_counted p b c.args.supplier label variant body rows fits c.args.self.now counted c.take.new.self c.take.ensures.others)
    (more_counted p b c.args.supplier label variant body rows fits c.args.self.now counted c.in-Some.count c.in-Some-checked_add.more (sym c.take.ensures.value ∙ c.in-Some.is) one)
