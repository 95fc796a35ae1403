-- The tables of a new register stand for the book of a new register.
use Rattle.std.proofs.Common.{◌≡◌, ◌∙◌, ap, ◌⊎◌, inl, inr, [], false, map, IsTrue, IsPermutation, refl, sym, subst, arith}
use Rattle.std.proofs.lemmas.List.Sorted.{IsPermutation-refl}
use Rattle.sqlite.specs.Effect.{Database}
use Rattle.sqlite.specs.State.{State, Survives}
use Rattle.sqlite.specs.Tree.{Trees}
use Rattle.fr_base.specs.Tables.{empty, get}
use Rattle.fr_base.specs.Cluster.{ClusterFile, is_cluster}
use Rattle.fr_base.specs.Book.{opening}
use Rattle.fr_tables.specs.Filling.{supplier_row}
use Rattle.fr_base.proofs.SuppliersLaws.{file_of-opening}
use Rattle.fr_store.specs.StandsFor.{StandsFor, of_frames}
use Rattle.fr_tables.specs.Filling.{with_config}
use Rattle.fr_tables.specs.Making.{no_rows}
use Rattle.fr_store.specs.Store.{IsNewOf, IsRegisterFor}
use Rattle.fr_store.specs.StoreFiles.{database_of}
use Rattle.fr_store.specs.Reading.{Stands}

opening_stands : (f : ClusterFile) → IsTrue (is_cluster f.cluster.integrator f.suppliers) → StandsFor (with_config f no_rows) f.cluster (opening f)
unfolding opening empty get of_frames
opening_stands f fine = record {
  heads = record { number = refl; none_before = refl; params = refl };
  rows = record {
    suppliers = subst (λ (g : ClusterFile). IsPermutation (map supplier_row g.suppliers) (map supplier_row f.suppliers)) (sym (file_of-opening f fine)) (IsPermutation-refl _);
    nodes = IsPermutation-refl [];
    imports = IsPermutation-refl [];
    stored = λ v. record { overlay = false; own = empty };
    variants = IsPermutation-refl [];
    grants = IsPermutation-refl [];
    frames = IsPermutation-refl [];
    placements = IsPermutation-refl [];
    signals = IsPermutation-refl [];
    dropped = λ k d low. absurd (omega arith);
    each = λ v x there. absurd cc;
  };
}

pub new_stands : (f : ClusterFile) (s : State) → IsTrue (is_cluster f.cluster.integrator f.suppliers) → IsNewOf f s.now → Stands s f.cluster (opening f)
new_stands f s fine is = record { has = is.has; for = subst (λ t. StandsFor t f.cluster (opening f)) (sym is.rows) (opening_stands f fine) }

-- the trees of a new register are one
pub new_at : (f : ClusterFile) (s : State) (db : Trees) → db ≡ s.now.trees → IsNewOf f s.now → IsNewOf f (database_of db)
new_at f s db same is =
    let there : s.now ≡ database_of db = (λ i. let d : Database = record { schema = is.has.schema i; trees = s.now.trees } in d) ∙ ap database_of (sym same) in
    subst (IsNewOf f) there is

-- a crash that leaves a new register leaves one of the book of a new register
pub new_left : (f : ClusterFile) (old new : State) → IsTrue (is_cluster f.cluster.integrator f.suppliers) → Survives old new (λ db. IsNewOf f (database_of db))
    → Survives old new (λ db. IsRegisterFor f.cluster (opening f) (database_of db))
new_left f old new fine s =
    record { clean = s.clean; shield = s.shield; counts = s.counts; limit = s.limit; closes = s.closes; crash = λ clean db may. left db (s.crash clean db may) }
  where
    left : (db : Trees) → old.may_leave db ⊎ IsNewOf f (database_of db) → old.may_leave db ⊎ IsRegisterFor f.cluster (opening f) (database_of db)
    left db (inl before) = inl before
    left db (inr made) = inr (record { has = made.has; for = subst (λ t. StandsFor t f.cluster (opening f)) (sym made.rows) (opening_stands f fine) })
