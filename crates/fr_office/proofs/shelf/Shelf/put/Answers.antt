use Rattle.std.proofs.Common.{◌≡◌, ◌+◌, ◌∙◌, ◌≤◌, ap, subst, sum_by, sym, rules}
use Rattle.std.specs.Map.{values_of}
use Rattle.fr_office.specs.KeptPages.{bytes_of, with_page}
use Rattle.fr_office.specs.Shelves.{key_of}
use Rattle.fr_office.specs.declared.shelf.PageKey.{PageKey}
use Rattle.fr_office.specs.declared.shelf.TheConstants.{COUNTED_BYTES}
use Rattle.fr_world.specs.Pages.{PageData}
use Rattle.fr_office.proofs.ShelfLaws.{put_there, shelf_put, shelf_put_over}
use Rattle.fr_office.proofs.shelf.Shelf.put.Goals as goal

pub overflow_sub-self : goal.overflow_sub-self
overflow_sub-self c =
    let key : PageKey = record { supplier = c.supplier.result; variant = c.variant.result } in
    let named : key ≡ key_of c.args.page = λ i. record { supplier = (c.supplier.ensures ∙ ap (λ (page : PageData). page.supplier) c.page.ensures) i; variant = (c.variant.ensures ∙ ap (λ (page : PageData). page.variant) c.page-2.ensures) i } in
    let fits : sum_by bytes_of (values_of c.self.inside.pages.entries) + bytes_of c.args.page ≤ COUNTED_BYTES = subst (λ pages. sum_by bytes_of pages + bytes_of c.args.page ≤ COUNTED_BYTES) (sym c.self.view_is) c.requires.fits in
    (shelf_put_over c.self.inside.pages.entries c.insert.new.self.entries c.self.inside.bytes c.bytes-bytes.result key c.args.page named c.self.invariant c.in_ok-former.ensures.was_ordered c.in_ok-former.ensures.entries c.bytes-bytes.ensures.value fits c.in_ok-former.former c.bytes.result c.in-Some.former c.in_ok-former.ensures.old c.in-Some.is c.bytes.ensures.value).0

pub invariant_of-self-in-Some : goal.invariant_of-self-in-Some
invariant_of-self-in-Some c =
    let key : PageKey = record { supplier = c.supplier.result; variant = c.variant.result } in
    let named : key ≡ key_of c.args.page = λ i. record { supplier = (c.supplier.ensures ∙ ap (λ (page : PageData). page.supplier) c.page.ensures) i; variant = (c.variant.ensures ∙ ap (λ (page : PageData). page.variant) c.page-2.ensures) i } in
    let fits : sum_by bytes_of (values_of c.self.inside.pages.entries) + bytes_of c.args.page ≤ COUNTED_BYTES = subst (λ pages. sum_by bytes_of pages + bytes_of c.args.page ≤ COUNTED_BYTES) (sym c.self.view_is) c.requires.fits in
    (shelf_put_over c.self.inside.pages.entries c.insert.new.self.entries c.self.inside.bytes c.bytes-bytes.result key c.args.page named c.self.invariant c.in_ok-former.ensures.was_ordered c.in_ok-former.ensures.entries c.bytes-bytes.ensures.value fits c.in_ok-former.former c.bytes.result c.in-Some.former c.in_ok-former.ensures.old c.in-Some.is c.bytes.ensures.value).1

pub invariant_of-self-in_default : goal.invariant_of-self-in_default
invariant_of-self-in_default c =
    let key : PageKey = record { supplier = c.supplier.result; variant = c.variant.result } in
    let named : key ≡ key_of c.args.page = λ i. record { supplier = (c.supplier.ensures ∙ ap (λ (page : PageData). page.supplier) c.page.ensures) i; variant = (c.variant.ensures ∙ ap (λ (page : PageData). page.variant) c.page-2.ensures) i } in
    let fits : sum_by bytes_of (values_of c.self.inside.pages.entries) + bytes_of c.args.page ≤ COUNTED_BYTES = subst (λ pages. sum_by bytes_of pages + bytes_of c.args.page ≤ COUNTED_BYTES) (sym c.self.view_is) c.requires.fits in
    shelf_put c.self.inside.pages.entries c.insert.new.self.entries c.self.inside.bytes c.bytes-bytes.result key c.args.page named c.self.invariant c.in_ok-former.ensures.was_ordered c.in_ok-former.ensures.entries c.bytes-bytes.ensures.value fits c.in_ok-former.former c.in_ok-former.ensures.old (search rules)

pub returns-in-Some-clause-ok : goal.returns-in-Some-clause-ok
returns-in-Some-clause-ok c =
    let key : PageKey = record { supplier = c.supplier.result; variant = c.variant.result } in
    let named : key ≡ key_of c.args.page = λ i. record { supplier = (c.supplier.ensures ∙ ap (λ (page : PageData). page.supplier) c.page.ensures) i; variant = (c.variant.ensures ∙ ap (λ (page : PageData). page.variant) c.page-2.ensures) i } in
    let fits : sum_by bytes_of (values_of c.self.inside.pages.entries) + bytes_of c.args.page ≤ COUNTED_BYTES = subst (λ pages. sum_by bytes_of pages + bytes_of c.args.page ≤ COUNTED_BYTES) (sym c.self.view_is) c.requires.fits in
    put_there c.self.inside.pages.entries c.insert.new.self.entries c.self.inside.bytes c.bytes-bytes.result key c.args.page named c.self.invariant c.in_ok-former.ensures.was_ordered c.in_ok-former.ensures.entries c.bytes-bytes.ensures.value fits ∙ ap (with_page c.args.page) c.self.view_is

pub returns-in_default-clause-ok : goal.returns-in_default-clause-ok
returns-in_default-clause-ok c =
    let key : PageKey = record { supplier = c.supplier.result; variant = c.variant.result } in
    let named : key ≡ key_of c.args.page = λ i. record { supplier = (c.supplier.ensures ∙ ap (λ (page : PageData). page.supplier) c.page.ensures) i; variant = (c.variant.ensures ∙ ap (λ (page : PageData). page.variant) c.page-2.ensures) i } in
    let fits : sum_by bytes_of (values_of c.self.inside.pages.entries) + bytes_of c.args.page ≤ COUNTED_BYTES = subst (λ pages. sum_by bytes_of pages + bytes_of c.args.page ≤ COUNTED_BYTES) (sym c.self.view_is) c.requires.fits in
    put_there c.self.inside.pages.entries c.insert.new.self.entries c.self.inside.bytes c.bytes-bytes.result key c.args.page named c.self.invariant c.in_ok-former.ensures.was_ordered c.in_ok-former.ensures.entries c.bytes-bytes.ensures.value fits ∙ ap (with_page c.args.page) c.self.view_is
