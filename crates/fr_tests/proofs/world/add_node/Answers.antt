use Rattle.std.proofs.Common.{◌<◌, List, length, sym, subst, ap, arith}
use Rattle.std.specs.List.Sorted.{IsStrictlySortedBy}
use Rattle.fr_base.specs.declared.name.Name.{Name}
use Rattle.fr_world.specs.Edits.{Takes}
use Rattle.fr_world.specs.Pages.{own_rows_of}
use Rattle.fr_world.specs.declared.edit.Edit.TheVariants.{NewNode}
use Rattle.fr_world.proofs.KeyLaws.{name_cmp}
use Rattle.fr_world.proofs.AmendTakes.{node_takes}
use Rattle.fr_tests.proofs.world.add_node.Goals as goal

pub amend-requires : goal.amend-requires
amend-requires c =
    let page = c.args.page.now in
    let in_order : IsStrictlySortedBy name_cmp page.nodes = subst (IsStrictlySortedBy name_cmp) c.nodes.ensures c.len.ensures.ordered in
    let room : length page.nodes < 64 = omega (arith, ap (λ (ns : List Name). length ns) c.nodes.ensures) in
    record { takes = subst (λ s. Takes page.variant (own_rows_of page) (NewNode s c.args.node)) (sym c.supplier-supplier.ensures) (node_takes page c.args.node c.frames-frames.ensures.kept in_order room) }
