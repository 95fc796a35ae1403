-- New node: which edit gives a supplier a node, by the nodes that it has; or what refuses it.
use Rattle.std.specs.Prelude.{List, length, nat_le, Result, Ok}
use Rattle.std.specs.List.{list_any}
use Rattle.fr_base.specs.Refusing.{◌>>◌, refuse◌when◌}
use Rattle.fr_base.specs.Names.{same_text}
use Rattle.fr_base.specs.declared.limits.TheConstants.{MAX_NODES}
use Rattle.fr_base.specs.declared.name.Name.{Name}
use Rattle.fr_base.specs.declared.refusal.Refusal.{Refusal}
use Rattle.fr_base.specs.declared.refusal.Refusal.TheVariants.{Exists, Limit}
use Rattle.fr_world.specs.declared.edit.Edit.{Edit}
use Rattle.fr_world.specs.declared.edit.Edit.TheVariants.{NewNode}

-- the edit that gives the supplier, who has these nodes, the node; or the first refusal
unfoldable pub new_node : Name → List Name → Name → Result Edit Refusal
new_node s nodes n = do
  refuse Exists when list_any (λ other. same_text other n) nodes
  refuse Limit when nat_le MAX_NODES (length nodes)
  Ok (NewNode s n)
