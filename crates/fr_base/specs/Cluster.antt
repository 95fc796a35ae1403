-- Cluster, cluster file: a cluster is the parameters and the integrator's key, which never change in a register. A
-- cluster file is these and suppliers with their keys. It is well formed where its parameters have no fault, each name
-- and key has its form, and there are at most 64 suppliers, in byte order of their names, no name and no key twice, the
-- integrator's key included. Every `Config` of the code is.
use Rattle.std.specs.Prelude.{◌≡◌, ℕ, Bool, true, not, ◌&&◌, List, [], ◌∷◌, map, length, nat_le, Ok, IsTrue}
use Rattle.std.specs.List.{list_all, list_any}
use Rattle.std.specs.Ordering.{nat_cmp, is_lt}
use Rattle.std.specs.Cmp.Lexicographic.{slice_cmp}
use Rattle.fr_base.specs.Names.{is_name, is_key, same_text}
use Rattle.fr_base.specs.Parameters.{check_params}
use Rattle.fr_base.specs.declared.limits.TheConstants.{MAX_SUPPLIERS}
use Rattle.fr_base.specs.declared.params.RawParams.{RawParams}
use Rattle.fr_base.specs.declared.config.Supplier.{Supplier}
use Rattle.fr_base.specs.declared.key.Key.{Key}

-- the parameters and the integrator's key, which never change in a register
pub record Cluster : Type 0 where
  pub params : RawParams
  pub integrator : Key

-- what a cluster file says: the parameters, the integrator's key, and the suppliers with their keys
pub record ClusterFile : Type 0 where
  pub cluster : Cluster
  pub suppliers : List Supplier

-- whether the text is before the first of these names, if there is one
abbrev pub is_before : List ℕ → List Supplier → Bool
is_before name [] = true
is_before name (s ∷ _) = is_lt (slice_cmp nat_cmp name s.name)

-- the names rise in byte order, so that none stands twice
abbrev pub names_rise : List Supplier → Bool
names_rise [] = true
names_rise (s ∷ rest) = is_before s.name rest && names_rise rest

-- no two of the keys are the same
abbrev pub keys_differ : List Key → Bool
keys_differ [] = true
keys_differ (k ∷ rest) = not (list_any (same_text k) rest) && keys_differ rest

-- the integrator's key, and those of the suppliers
abbrev pub keys_of : Key → List Supplier → List Key
keys_of integrator suppliers = integrator ∷ map (λ s. s.key) suppliers

-- at most 64 suppliers, in byte order of their names, no name twice, and no key twice
unfoldable pub is_cluster : Key → List Supplier → Bool
is_cluster integrator suppliers =
    (nat_le (length suppliers) MAX_SUPPLIERS && names_rise suppliers) && keys_differ (keys_of integrator suppliers)

-- what a cluster file gives: parameters without a fault, at most 64 suppliers in order, no name and no key twice, and each
-- name and each key of its form
pub record IsWellFormed (f : ClusterFile) : Type 0 where
  pub params : check_params f.cluster.params ≡ Ok f.cluster.params
  pub cluster : IsTrue (is_cluster f.cluster.integrator f.suppliers)
  pub names : IsTrue (list_all (λ s. is_name s.name) f.suppliers)
  pub keys : IsTrue (list_all is_key (keys_of f.cluster.integrator f.suppliers))
