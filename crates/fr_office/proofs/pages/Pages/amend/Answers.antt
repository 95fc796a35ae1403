use Rattle.std.proofs.Common.{◌∙◌, Option, ap, subst}
use Rattle.fr_world.specs.Pages.{PageData}
use Rattle.fr_office.specs.KeptPages.{Amends, KeptData, none_lent}
use Rattle.fr_office.proofs.pages.Pages.amend.Goals as goal

pub returns-clause-lent : goal.returns-clause-lent
returns-clause-lent c =
    let was = c.take-2.ensures.value ∙ ap (λ (k : KeptData). k.lent) (c.self.view_is ∙ c.take.ensures.others) in
    subst (λ (o : Option PageData). Amends c.args.edit.now o c.page_after.result) was c.page_after.ensures

pub returns-clause-others : goal.returns-clause-others
returns-clause-others c = ap none_lent (c.self.view_is ∙ c.take.ensures.others)
