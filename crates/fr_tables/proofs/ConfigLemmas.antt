-- The rows of a cluster, and the tests of its names and keys.
use Rattle.std.proofs.Common.{◌≡◌, ℕ, List, [], ◌∷◌, map, length, ◌&&◌, arith, pos, true, false, Bool, IsTrue, Ok, refl, sym, ap, ◌∙◌}
use Rattle.std.specs.List.{list_all}
use Rattle.sqlite.specs.declared.types.Value.TheVariants.{Int, Text}
use Rattle.fr_base.specs.declared.params.RawParams.{RawParams}
use Rattle.fr_base.specs.Names.{is_key}
use Rattle.fr_base.specs.Parameters.{check_params}
use Rattle.fr_base.specs.Refusing.{◌>>◌, refuse◌when◌}
use Rattle.fr_tables.specs.Statements.{cluster_row, cluster2_row, shows_cluster, shows_cluster2}
use Rattle.std.specs.Prelude.{⊤}
use Rattle.std.proofs.lemmas.Bool.{and_from}
use Rattle.sqlite.specs.Order.{Row, column}
use Rattle.fr_base.specs.declared.config.Supplier.{Supplier}
use Rattle.fr_base.specs.Cluster.{ClusterFile, IsWellFormed, keys_of, is_cluster}
use Rattle.fr_tables.specs.ClusterRows.{AreFormed, TellsParams}

-- a row of nine columns is these
nine : (r : Row) → length r ≡ 9
    → r ≡ column r 0 ∷ column r 1 ∷ column r 2 ∷ column r 3 ∷ column r 4 ∷ column r 5 ∷ column r 6 ∷ column r 7 ∷ column r 8 ∷ []
nine (a ∷ b ∷ c ∷ d ∷ e ∷ f ∷ g ∷ h ∷ i ∷ []) is = refl
nine r is = absurd (omega arith)

-- a row of ten columns is these
ten : (r : Row) → length r ≡ 10
    → r ≡ column r 0 ∷ column r 1 ∷ column r 2 ∷ column r 3 ∷ column r 4 ∷ column r 5 ∷ column r 6 ∷ column r 7 ∷ column r 8 ∷ column r 9 ∷ []
ten (a ∷ b ∷ c ∷ d ∷ e ∷ f ∷ g ∷ h ∷ i ∷ j ∷ []) is = refl
ten r is = absurd (omega arith)

-- parameters that pass their check are kept as they were
kept_params : (raw p : RawParams) → check_params raw ≡ Ok p → p ≡ raw
unfolding check_params ◌>>◌ refuse◌when◌
kept_params raw p is = grind arith

-- the row whose columns were read is that of the cluster
pub its_row : (r : Row) (raw p : RawParams) (integrator : List ℕ) → length r ≡ 10 → check_params raw ≡ Ok p → TellsParams r raw → column r 8 ≡ Text integrator → column r 9 ≡ Int (pos raw.cycles)
    → r ≡ shows_cluster2 (cluster2_row p integrator)
its_row r raw p integrator size checked t key cycles =
    ten r size
    ∙ (λ i. t.static_slots i ∷ t.slot_macroticks i ∷ t.dynamic_macroticks i ∷ t.symbol_macroticks i ∷ t.idle_macroticks i ∷ t.macroticks_per_cycle i ∷ t.payload_words i ∷ t.channels i ∷ key i ∷ cycles i ∷ [])
    ∙ ap (λ q. shows_cluster2 (cluster2_row q integrator)) (sym (kept_params raw p checked))

-- so in the schema before
pub row_before : (r : Row) (raw p : RawParams) (integrator : List ℕ) → length r ≡ 9 → check_params raw ≡ Ok p → TellsParams r raw → column r 8 ≡ Text integrator → r ≡ shows_cluster (cluster_row p integrator)
row_before r raw p integrator size checked t key =
    nine r size
    ∙ (λ i. t.static_slots i ∷ t.slot_macroticks i ∷ t.dynamic_macroticks i ∷ t.symbol_macroticks i ∷ t.idle_macroticks i ∷ t.macroticks_per_cycle i ∷ t.payload_words i ∷ t.channels i ∷ key i ∷ [])
    ∙ ap (λ q. shows_cluster (cluster_row q integrator)) (sym (kept_params raw p checked))

pub same_cycles : (raw p : RawParams) → check_params raw ≡ Ok p → p.cycles ≡ raw.cycles
same_cycles raw p checked = ap (λ (q : RawParams). q.cycles) (kept_params raw p checked)

unfoldable pub is_cluster_open : ⊤
unfolding is_cluster
is_cluster_open = tt

both : (a b : Bool) → (a && b) ≡ true → (a ≡ true) × (b ≡ true)
both true b h = (refl, h)
both false b h = absurd cc

integrator_and : (integrator : List ℕ) (suppliers : List Supplier) → IsTrue (is_key integrator) → IsTrue (list_all (λ s. is_key s.key) suppliers) → IsTrue (list_all is_key (keys_of integrator suppliers))
integrator_and integrator suppliers first rest = and_from _ _ first (each suppliers rest)
  where
    each : (list : List Supplier) → IsTrue (list_all (λ s. is_key s.key) list) → IsTrue (list_all is_key (map (λ s. s.key) list))
    each [] h = refl
    each (s ∷ list) h = let both = both (is_key s.key) (list_all (λ s. is_key s.key) list) h in and_from _ _ both.0 (each list both.1)

-- what was read and tested is a cluster
pub well_formed : (f : ClusterFile) → check_params f.cluster.params ≡ Ok f.cluster.params → is_cluster f.cluster.integrator f.suppliers ≡ true → IsTrue (is_key f.cluster.integrator) → AreFormed f.suppliers → IsWellFormed f
well_formed f params cluster integrator formed = record { params = params; cluster = cluster; names = formed.0; keys = integrator_and f.cluster.integrator f.suppliers integrator formed.1 }
