-- Joined: what edits make of the suppliers that a config lists: one more for each that joins, and
-- another key for each that is given one.
use Rattle.std.specs.Prelude.{List, [], ◌∷◌}
use Rattle.fr_base.specs.Cluster.{ClusterFile}
use Rattle.fr_base.specs.Joining.{joined}
use Rattle.fr_base.specs.KeyChanges.{with_key}
use Rattle.fr_world.specs.declared.edit.Edit.{Edit}
use Rattle.fr_world.specs.declared.edit.Edit.TheVariants.{NewSupplier, SetKey}

-- the file after an edit: one more supplier where one joins, and another key where one is given
abbrev pub after_edit : ClusterFile → Edit → ClusterFile
after_edit f (NewSupplier s key) = joined f s key
after_edit f (SetKey s key) = with_key f s key
after_edit f _ = f

-- the file after edits, one after another
abbrev pub after_edits : ClusterFile → List Edit → ClusterFile
after_edits f [] = f
after_edits f (edit ∷ edits) = after_edits (after_edit f edit) edits
