use Rattle.std.proofs.Common.{◌≡◌, ◌∙◌, ◌++◌, true, false, ap, sym, append-nil}
use Rattle.std.specs.List.{list_all}
use Rattle.fr_base.specs.Book.{held_by_node}
use Rattle.fr_base.specs.Channels.{channels_in}
use Rattle.fr_base.specs.Tables.{get}
use Rattle.fr_world.specs.Amends.{grants_of}
use Rattle.fr_world.specs.Pages.{own_rows_of}
use Rattle.fr_world.proofs.RoomLaws.{held, vacant-held, vacant-none}
use Rattle.fr_world.proofs.rooms.push_channels.Goals as goal

pub returns-in_ok-push_bases : goal.returns-in_ok-push_bases
returns-in_ok-push_bases c =
    let page = own_rows_of c.args.page.now in
    let p = c.args.page.now.params in
    let has : held page c.args.search.now.node p c.args.search.now.repetition c.args.slot c.args.channels ≡ true = ap (λ es. list_all (λ x. held_by_node page.supplier c.args.search.now.node (get (grants_of page.supplier es) (c.args.slot, x))) (channels_in c.args.channels)) (sym c.grants.ensures) ∙ sym (c.holds_on.ensures page.supplier) ∙ c.if-holds_on.true in
    c.in_ok-push_bases.ensures ∙ ap (λ more. c.args.places.now ++ more) (vacant-held page c.args.search.now.node p c.args.search.now.repetition c.args.slot c.args.channels has)

pub returns-else-holds_on : goal.returns-else-holds_on
returns-else-holds_on c =
    let page = own_rows_of c.args.page.now in
    let p = c.args.page.now.params in
    let none : held page c.args.search.now.node p c.args.search.now.repetition c.args.slot c.args.channels ≡ false = ap (λ es. list_all (λ x. held_by_node page.supplier c.args.search.now.node (get (grants_of page.supplier es) (c.args.slot, x))) (channels_in c.args.channels)) (sym c.grants.ensures) ∙ sym (c.holds_on.ensures page.supplier) ∙ c.if-holds_on.false in
    sym (append-nil c.args.places.now) ∙ ap (λ more. c.args.places.now ++ more) (sym (vacant-none page c.args.search.now.node p c.args.search.now.repetition c.args.slot c.args.channels none))
