use Rattle.std.proofs.Common.{◌∙◌, not, refl, sym, subst}
use Rattle.fr_world.specs.declared.edit.Edit.{Edit}
use Rattle.fr_office.specs.KeptPages.{AreFollowed, kept_where, touches}
use Rattle.fr_office.proofs.CountLaws.{one_more, others_counted}
use Rattle.fr_office.proofs.KeptLaws.{rows-followed, same-followed, where-followed}
use Rattle.fr_office.proofs.kept.Kept.follow_one.Goals as goal

pub returns-in-NewVariant-clause-pages : goal.returns-in-NewVariant-clause-pages
returns-in-NewVariant-clause-pages c =
    where-followed c.args.edit.now c.args.self.now.pages c.let_go_of_variant.new.self (c.let_go_of_variant.ensures ∙ (λ i. kept_where (λ page. not (touches (sym c.in-NewVariant.is i) page)) c.args.self.now.pages))

pub returns-in-NewFlat-clause-pages : goal.returns-in-NewFlat-clause-pages
returns-in-NewFlat-clause-pages c =
    where-followed c.args.edit.now c.args.self.now.pages c.let_go_of_variant-in-NewFlat.new.self (c.let_go_of_variant-in-NewFlat.ensures ∙ (λ i. kept_where (λ page. not (touches (sym c.in-NewFlat.is i) page)) c.args.self.now.pages))

pub returns-in-SetReleased-clause-pages : goal.returns-in-SetReleased-clause-pages
returns-in-SetReleased-clause-pages c =
    where-followed c.args.edit.now c.args.self.now.pages c.let_go_of_variant-in-SetReleased.new.self (c.let_go_of_variant-in-SetReleased.ensures ∙ (λ i. kept_where (λ page. not (touches (sym c.in-SetReleased.is i) page)) c.args.self.now.pages))

pub returns-in-NewNode-clause-pages : goal.returns-in-NewNode-clause-pages
returns-in-NewNode-clause-pages c =
    where-followed c.args.edit.now c.args.self.now.pages c.let_go_of_supplier.new.self (c.let_go_of_supplier.ensures ∙ (λ i. kept_where (λ page. not (touches (sym c.in-NewNode.is i) page)) c.args.self.now.pages))

pub returns-in-NewSupplier-clause-pages : goal.returns-in-NewSupplier-clause-pages
returns-in-NewSupplier-clause-pages c = subst (λ (e : Edit). AreFollowed e c.args.self.now.pages c.args.self.now.pages) (sym c.in-NewSupplier.is) (same-followed _ c.args.self.now.pages (λ page. refl))

pub returns-in-SetKey-clause-pages : goal.returns-in-SetKey-clause-pages
returns-in-SetKey-clause-pages c = subst (λ (e : Edit). AreFollowed e c.args.self.now.pages c.args.self.now.pages) (sym c.in-SetKey.is) (same-followed _ c.args.self.now.pages (λ page. refl))

pub returns-in-KeepImport-clause-pages : goal.returns-in-KeepImport-clause-pages
returns-in-KeepImport-clause-pages c = subst (λ (e : Edit). AreFollowed e c.args.self.now.pages c.args.self.now.pages) (sym c.in-KeepImport.is) (same-followed _ c.args.self.now.pages (λ page. refl))

pub returns-in-Rows-clause-pages : goal.returns-in-Rows-clause-pages
returns-in-Rows-clause-pages c = rows-followed c.args.edit.now c.in-Rows.rows c.args.self.now.pages c.amend.new.self c.in-Rows.is c.amend.ensures.lent c.amend.ensures.others

pub returns-in-KeepImport-clause-counts : goal.returns-in-KeepImport-clause-counts
returns-in-KeepImport-clause-counts c = one_more c.args.edit.now _ _ _ _ _ c.in-KeepImport.is c.args.self.now.counts c.add_one.new.self c.add_one.ensures

pub returns-in-NewVariant-clause-counts : goal.returns-in-NewVariant-clause-counts
returns-in-NewVariant-clause-counts c = λ p b fits counted. others_counted b c.args.edit.now c.args.self.now.counts (λ s label v body rows is. let no = sym c.in-NewVariant.is ∙ is in cc) counted

pub returns-in-NewFlat-clause-counts : goal.returns-in-NewFlat-clause-counts
returns-in-NewFlat-clause-counts c = λ p b fits counted. others_counted b c.args.edit.now c.args.self.now.counts (λ s label v body rows is. let no = sym c.in-NewFlat.is ∙ is in cc) counted

pub returns-in-SetReleased-clause-counts : goal.returns-in-SetReleased-clause-counts
returns-in-SetReleased-clause-counts c = λ p b fits counted. others_counted b c.args.edit.now c.args.self.now.counts (λ s label v body rows is. let no = sym c.in-SetReleased.is ∙ is in cc) counted

pub returns-in-NewSupplier-clause-counts : goal.returns-in-NewSupplier-clause-counts
returns-in-NewSupplier-clause-counts c = λ p b fits counted. others_counted b c.args.edit.now c.args.self.now.counts (λ s label v body rows is. let no = sym c.in-NewSupplier.is ∙ is in cc) counted

pub returns-in-SetKey-clause-counts : goal.returns-in-SetKey-clause-counts
returns-in-SetKey-clause-counts c = λ p b fits counted. others_counted b c.args.edit.now c.args.self.now.counts (λ s label v body rows is. let no = sym c.in-SetKey.is ∙ is in cc) counted

pub returns-in-NewNode-clause-counts : goal.returns-in-NewNode-clause-counts
returns-in-NewNode-clause-counts c = λ p b fits counted. others_counted b c.args.edit.now c.args.self.now.counts (λ s label v body rows is. let no = sym c.in-NewNode.is ∙ is in cc) counted

pub returns-in-Rows-clause-counts : goal.returns-in-Rows-clause-counts
returns-in-Rows-clause-counts c = λ p b fits counted. others_counted b c.args.edit.now c.args.self.now.counts (λ s label v body rows is. let no = sym c.in-Rows.is ∙ is in cc) counted
