-- Joining: how a supplier joins a cluster file's list. What refuses it, in order: its name is there, its key is
-- another's or the integrator's, 64 suppliers are there.
use Rattle.std.specs.Prelude.{ℕ, Bool, List, [], ◌∷◌, length, nat_le, Result, ⊤, if◌then◌else◌}
use Rattle.std.specs.List.{list_any}
use Rattle.std.specs.Ordering.{nat_cmp, is_lt}
use Rattle.std.specs.Cmp.Lexicographic.{slice_cmp}
use Rattle.fr_base.specs.Refusing.{◌>>◌, refuse◌when◌}
use Rattle.fr_base.specs.Cluster.{ClusterFile, keys_of}
use Rattle.fr_base.specs.Names.{same_text}
use Rattle.fr_base.specs.declared.limits.TheConstants.{MAX_SUPPLIERS}
use Rattle.fr_base.specs.declared.config.Supplier.{Supplier}
use Rattle.fr_base.specs.declared.key.Key.{Key}
use Rattle.fr_base.specs.declared.name.Name.{Name}
use Rattle.fr_base.specs.declared.refusal.Refusal.{Refusal}
use Rattle.fr_base.specs.declared.refusal.Refusal.TheVariants.{Exists, Limit, KeyTaken}

-- whether the first name is before the second
abbrev pub is_earlier : List ℕ → List ℕ → Bool
is_earlier a b = is_lt (slice_cmp nat_cmp a b)

-- the suppliers with one more, before the first whose name is after its own
abbrev pub with_supplier : Supplier → List Supplier → List Supplier
with_supplier s [] = s ∷ []
with_supplier s (t ∷ ts) = if is_earlier s.name t.name then s ∷ t ∷ ts else t ∷ with_supplier s ts

-- the file with one supplier more
abbrev pub joined : ClusterFile → Name → Key → ClusterFile
joined f s key = record f { suppliers = with_supplier (record { name = s; key = key }) f.suppliers }

-- the first refusal of a supplier that is to join with this key, or none
unfoldable pub admits_supplier : ClusterFile → Name → Key → Result ⊤ Refusal
admits_supplier f s key = do
  refuse Exists when list_any (λ t. same_text s t.name) f.suppliers
  refuse KeyTaken when list_any (same_text key) (keys_of f.cluster.integrator f.suppliers)
  refuse Limit when nat_le MAX_SUPPLIERS (length f.suppliers)
