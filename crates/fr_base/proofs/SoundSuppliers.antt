-- A sound book is sound after one more supplier joined, and after one has another key.
use Rattle.std.proofs.Common.{◌≡◌, ◌<◌, false, IsTrue}
use Rattle.fr_base.specs.Cluster.{Cluster, IsWellFormed}
use Rattle.fr_base.specs.Names.{is_name, is_key}
use Rattle.fr_base.specs.Book.{Book, file_of}
use Rattle.fr_base.specs.Tables.{contains, len, insert}
use Rattle.fr_base.specs.Step.{has_key}
use Rattle.fr_base.specs.Sound.{IsSound}
use Rattle.fr_base.specs.declared.limits.TheConstants.{MAX_SUPPLIERS}
use Rattle.fr_base.specs.declared.key.Key.{Key}
use Rattle.fr_base.specs.declared.name.Name.{Name}
use Rattle.fr_base.proofs.SoundTables.{contains-more}
use Rattle.fr_base.proofs.SuppliersLaws.{joined-well_formed}
use Rattle.fr_base.proofs.KeyLaws.{keyed-well_formed}

-- what holds of the suppliers holds with this key of this supplier
more-sound : (c : Cluster) (b : Book) → IsSound c b → (s : Name) (k : Key) → IsWellFormed (file_of c (record b { suppliers = insert b.suppliers s k })) →
    IsSound c (record b { suppliers = insert b.suppliers s k })
more-sound c b sound s k well_formed = record {
  cluster = well_formed;
  nodes = λ t n h. let old = sound.nodes t n h in (old.0, contains-more b.suppliers s k t old.1);
  variants = sound.variants;
  parents = sound.parents;
  imports = λ t l kept e. let fine = sound.imports t l kept e in record {
    label = fine.label;
    supplier = contains-more b.suppliers s k t fine.supplier;
    variant = fine.variant;
    bytes = fine.bytes;
    rows = fine.rows;
  };
  node_limit = sound.node_limit;
  variant_limit = sound.variant_limit;
  import_limit = sound.import_limit;
}

pub joined-sound : (c : Cluster) (b : Book) → IsSound c b → (s : Name) (k : Key) → IsTrue (is_name s) → IsTrue (is_key k) →
    contains b.suppliers s ≡ false → has_key c b k ≡ false → len b.suppliers < MAX_SUPPLIERS → IsSound c (record b { suppliers = insert b.suppliers s k })
joined-sound c b sound s k named formed free new room = more-sound c b sound s k (joined-well_formed c b s k sound.cluster named formed free new room)

pub rekeyed-sound : (c : Cluster) (b : Book) → IsSound c b → (s : Name) (k : Key) → IsTrue (is_key k) →
    IsTrue (contains b.suppliers s) → has_key c b k ≡ false → IsSound c (record b { suppliers = insert b.suppliers s k })
rekeyed-sound c b sound s k formed there new = more-sound c b sound s k (keyed-well_formed c b s k sound.cluster formed there new)
