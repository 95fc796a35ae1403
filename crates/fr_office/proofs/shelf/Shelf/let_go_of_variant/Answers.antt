use Rattle.std.proofs.Common.{◌∙◌, ap, filter, not, rules, tests}
use Rattle.std.proofs.lemmas.Map.Made.{filter_same_pairs}
use Rattle.fr_base.specs.Names.{same_text}
use Rattle.fr_world.specs.Pages.{PageData}
use Rattle.fr_office.specs.declared.shelf.PageKey.{PageKey}
use Rattle.fr_office.proofs.ShelfLaws.{left_bytes, left_pages, shelf_left}
use Rattle.fr_office.proofs.shelf.Shelf.let_go_of_variant.Goals as goal

pub total-self-inside-requires : goal.total-self-inside-requires
total-self-inside-requires c =
    let left = filter_same_pairs _ (λ (e : PageKey × PageData). not (same_text e.1.variant c.args.variant)) _ (λ k v b w f' t. search (rules, tests)) _ _ c.retain.ensures.filtered in
    left_bytes (λ page. not (same_text page.variant c.args.variant)) c.self.inside.pages.entries c.retain.new.self.entries c.self.inside.bytes c.self.invariant left

pub invariant_of-self : goal.invariant_of-self
invariant_of-self c =
    let left = filter_same_pairs _ (λ (e : PageKey × PageData). not (same_text e.1.variant c.args.variant)) _ (λ k v b w f' t. search (rules, tests)) _ _ c.retain.ensures.filtered in
    shelf_left (λ page. not (same_text page.variant c.args.variant)) c.self.inside.pages.entries c.retain.new.self.entries c.self.inside.bytes c.self.invariant left c.total-self-inside.result c.total-self-inside.ensures

pub returns : goal.returns
returns c =
    let left = filter_same_pairs _ (λ (e : PageKey × PageData). not (same_text e.1.variant c.args.variant)) _ (λ k v b w f' t. search (rules, tests)) _ _ c.retain.ensures.filtered in
    left_pages (λ page. not (same_text page.variant c.args.variant)) c.self.inside.pages.entries c.retain.new.self.entries c.self.inside.bytes c.self.invariant left
    ∙ ap (filter (λ page. not (same_text page.variant c.args.variant))) c.self.view_is
