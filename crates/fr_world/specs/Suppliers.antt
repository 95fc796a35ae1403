-- New supplier, new key: the edit that adds a supplier or gives one another key, decided by the
-- suppliers that are there; or what refuses it.
use Rattle.std.specs.Prelude.{Result, Ok}
use Rattle.fr_base.specs.Refusing.{◌>>◌}
use Rattle.fr_base.specs.Cluster.{ClusterFile}
use Rattle.fr_base.specs.Joining.{admits_supplier}
use Rattle.fr_base.specs.KeyChanges.{admits_key}
use Rattle.fr_base.specs.declared.key.Key.{Key}
use Rattle.fr_base.specs.declared.name.Name.{Name}
use Rattle.fr_base.specs.declared.refusal.Refusal.{Refusal}
use Rattle.fr_world.specs.declared.edit.Edit.{Edit}
use Rattle.fr_world.specs.declared.edit.Edit.TheVariants.{NewSupplier, SetKey}

-- the edit by which the supplier joins those of the file; or the first refusal
unfoldable pub new_supplier : ClusterFile → Name → Key → Result Edit Refusal
new_supplier f s key = do
  admits_supplier f s key
  Ok (NewSupplier s key)

-- the edit by which the supplier of the file has another key; or the first refusal
unfoldable pub new_key : ClusterFile → Name → Key → Result Edit Refusal
new_key f s key = do
  admits_key f s key
  Ok (SetKey s key)
