-- What a proof about these decisions opens.
use Rattle.std.specs.Prelude.{⊤}
use Rattle.fr_base.specs.Refusing.{◌>>=◌, ◌>>◌, ◌or◌, refuse◌when◌}
use Rattle.fr_world.specs.Common.{allows_flat, depth_after, opening, common_edit}
use Rattle.fr_world.specs.ImportLabels.{label_decision}
use Rattle.fr_world.specs.ImportLimits.{file_room}
use Rattle.fr_world.specs.Nodes.{new_node}
use Rattle.fr_world.specs.Suppliers.{new_key, new_supplier}

unfoldable pub common_open : ⊤
unfolding ◌>>=◌ ◌>>◌ ◌or◌ refuse◌when◌ depth_after allows_flat opening common_edit new_node new_supplier new_key label_decision file_room
common_open = tt
