-- Key change: how a supplier of a cluster file's list has another key. What refuses it, in order:
-- no supplier has the name; the key is the integrator's or a supplier's, also where it is the
-- supplier's own.
use Rattle.std.specs.Prelude.{not, map, Result, ⊤, if◌then◌else◌}
use Rattle.std.specs.List.{list_any}
use Rattle.fr_base.specs.Refusing.{◌>>◌, refuse◌when◌}
use Rattle.fr_base.specs.Cluster.{ClusterFile, keys_of}
use Rattle.fr_base.specs.Names.{same_text}
use Rattle.fr_base.specs.declared.config.Supplier.{Supplier}
use Rattle.fr_base.specs.declared.key.Key.{Key}
use Rattle.fr_base.specs.declared.name.Name.{Name}
use Rattle.fr_base.specs.declared.refusal.Refusal.{Refusal}
use Rattle.fr_base.specs.declared.refusal.Refusal.TheVariants.{NoSupplier, KeyTaken}

-- the supplier, with this key where it has this name
abbrev pub keyed : Name → Key → Supplier → Supplier
keyed s key t = if same_text s t.name then record t { key = key } else t

-- the file in which the supplier has this key
abbrev pub with_key : ClusterFile → Name → Key → ClusterFile
with_key f s key = record f { suppliers = map (keyed s key) f.suppliers }

-- the first refusal of a supplier that is to have this key, or none
unfoldable pub admits_key : ClusterFile → Name → Key → Result ⊤ Refusal
admits_key f s key = do
  refuse NoSupplier when not (list_any (λ t. same_text s t.name) f.suppliers)
  refuse KeyTaken when list_any (same_text key) (keys_of f.cluster.integrator f.suppliers)
