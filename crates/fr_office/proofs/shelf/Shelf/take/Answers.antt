use Rattle.std.proofs.Common.{◌∙◌, Some, ap, sym}
use Rattle.std.specs.Map.{values_of}
use Rattle.fr_office.specs.KeptPages.{others_than, page_at}
use Rattle.fr_office.specs.declared.shelf.PageKey.{PageKey}
use Rattle.fr_world.specs.Pages.{PageData}
use Rattle.fr_office.proofs.ShelfLaws.{left_there, looked_up, shelf_taken}
use Rattle.fr_office.proofs.shelf.Shelf.take.Goals as goal

pub returns-in_err-page-clause-value : goal.returns-in_err-page-clause-value
returns-in_err-page-clause-value c =
    let key : PageKey = record { supplier = c.args.supplier; variant = c.args.variant } in
    c.from_residual.ensures ∙ sym c.in_err-page.was ∙ c.remove.ensures.value ∙ looked_up key c.self.inside.pages.entries c.self.invariant.keyed
    ∙ ap (page_at c.args.supplier c.args.variant) c.self.view_is

pub returns-in_err-page-clause-others : goal.returns-in_err-page-clause-others
returns-in_err-page-clause-others c =
    let key : PageKey = record { supplier = c.args.supplier; variant = c.args.variant } in
    ap values_of c.remove.ensures.entries ∙ left_there key c.self.inside.pages.entries c.len-len.ensures.ordered c.self.invariant.keyed
    ∙ ap (others_than c.args.supplier c.args.variant) c.self.view_is

pub overflow_sub-self : goal.overflow_sub-self
overflow_sub-self c =
    let key : PageKey = record { supplier = c.args.supplier; variant = c.args.variant } in
    (shelf_taken key c.self.inside.pages.entries c.remove.new.self.entries c.self.inside.bytes c.bytes.result c.in_ok-page.page c.self.invariant c.remove.ensures.entries (sym c.remove.ensures.value ∙ c.in_ok-page.was) c.bytes.ensures.value).0

pub invariant_of-self-2 : goal.invariant_of-self-2
invariant_of-self-2 c =
    let key : PageKey = record { supplier = c.args.supplier; variant = c.args.variant } in
    (shelf_taken key c.self.inside.pages.entries c.remove.new.self.entries c.self.inside.bytes c.bytes.result c.in_ok-page.page c.self.invariant c.remove.ensures.entries (sym c.remove.ensures.value ∙ c.in_ok-page.was) c.bytes.ensures.value).1

pub returns-clause-value : goal.returns-clause-value
returns-clause-value c =
    let key : PageKey = record { supplier = c.args.supplier; variant = c.args.variant } in
    ap (λ (page : PageData). Some page) c.into_page.ensures ∙ sym c.in_ok-page.was ∙ c.remove.ensures.value ∙ looked_up key c.self.inside.pages.entries c.self.invariant.keyed
    ∙ ap (page_at c.args.supplier c.args.variant) c.self.view_is

pub returns-clause-others : goal.returns-clause-others
returns-clause-others c =
    let key : PageKey = record { supplier = c.args.supplier; variant = c.args.variant } in
    ap values_of c.remove.ensures.entries ∙ left_there key c.self.inside.pages.entries c.len-len.ensures.ordered c.self.invariant.keyed
    ∙ ap (others_than c.args.supplier c.args.variant) c.self.view_is
