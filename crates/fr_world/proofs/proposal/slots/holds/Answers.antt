use Rattle.std.proofs.Common.{◌∙◌, ap}
use Rattle.std.specs.List.{list_all}
use Rattle.fr_base.specs.Book.{held_by_node}
use Rattle.fr_base.specs.Channels.{channels_in}
use Rattle.fr_base.specs.Tables.{get}
use Rattle.fr_world.specs.Amends.{grants_of}
use Rattle.fr_world.proofs.proposal.slots.holds.Goals as goal

pub returns : goal.returns
returns c =
    let s = c.args.page.now.supplier in
    c.holds_on.ensures s ∙ ap (λ es. list_all (λ x. held_by_node s c.args.node (get (grants_of s es) (c.args.slot, x))) (channels_in c.args.channels)) c.grants.ensures
