-- Laws: each refusal's name is explained, and each fault's word of a cluster file. A fault of a
-- request is told exactly where the register would refuse it for its text, a name or a key. A fault
-- of a row is told exactly where no cluster takes it, and one of a file exactly where it is too
-- long, has no header or too many rows, or has such a row.
use Rattle.std.specs.Prelude.{◌≡◌, ◌↔◌, ◌≤◌, ℕ, Bool, true, false, not, List, ◌∷◌, length, codes, Some, Result, Ok, Err}
use Rattle.std.specs.List.{AllByRecursion}
use Rattle.fr_base.specs.Checks.{check}
use Rattle.fr_base.specs.ImportRows.{records_of, row_of}
use Rattle.fr_base.specs.Parameters.{check_params}
use Rattle.fr_base.specs.Refusals.{name_of}
use Rattle.fr_base.specs.declared.actor.Actor.{Actor}
use Rattle.fr_base.specs.declared.actor.Actor.TheVariants.{Integrator, Supplier}
use Rattle.fr_base.specs.declared.import.Row.{Row}
use Rattle.fr_base.specs.declared.limits.TheConstants.{MAX_IMPORT_BYTES, MAX_ROWS}
use Rattle.fr_base.specs.declared.name.Name.{Name}
use Rattle.fr_base.specs.declared.params.Params.{Params}
use Rattle.fr_base.specs.declared.refusal.Refusal.{Refusal}
use Rattle.fr_base.specs.declared.refusal.Refusal.TheVariants.{BadKey, BadName, BadText}
use Rattle.fr_base.specs.declared.request.Request.{Request}
use Rattle.fr_base.specs.declared.request.Request.TheVariants as request
use Rattle.fr_base.specs.declared.wish.Wish.{Wish}
use Rattle.fr_base.specs.Wishes.{wish_of}
use Rattle.fr_text.specs.ClusterFile.{config_fault_word}
use Rattle.fr_text.specs.declared.cluster_file.ConfigFault.{ConfigFault}
use Rattle.fr_guide.specs.Faults.{all_fine}
use Rattle.fr_guide.specs.FileKinds.{kind_of}
use Rattle.fr_guide.specs.Requests.{formed_in, have_forms}
use Rattle.fr_guide.specs.Rows.{AreToldOfRows, is_fine_row}
use Rattle.fr_guide.specs.Topics.{is_explained}
use Rattle.fr_guide.specs.declared.line_faults.LineFaults.{LineFaults}
use Rattle.fr_guide.specs.declared.rows.file_kind.FileKind.{FileKind}
use Rattle.fr_guide.specs.declared.rows.file_kind.FileKind.TheVariants.{Rows, Wishes}

-- Each refusal's name is explained, and so is that of an import's refused row.
abbrev pub EachRefusalIsExplained : Type 0
EachRefusalIsExplained = ((refusal : Refusal) → is_explained (name_of refusal) ≡ true) × (is_explained (codes "BadRow") ≡ true)

-- Each word of a cluster file's faults is explained.
abbrev pub EachConfigFaultIsExplained : Type 0
EachConfigFaultIsExplained = (fault : ConfigFault) → is_explained (config_fault_word fault) ≡ true

-- whether the refusal is for a text, a name or a key that has not its form
abbrev pub is_of_form : Refusal → Bool
is_of_form BadText = true
is_of_form BadName = true
is_of_form BadKey = true
is_of_form _ = false

-- whether it is refused for a text, a name or a key that has not its form
abbrev pub is_misformed : {A : Type 0} → Result A Refusal → Bool
is_misformed (Ok x) = false
is_misformed (Err refusal) = is_of_form refusal

-- an actor that may ask the request: a supplier of this name, where a supplier or anybody may
abbrev pub asked_by : Name → Request → Actor
asked_by s (request.OpenVariant variant begins) = Integrator
asked_by s (request.Release variant) = Integrator
asked_by s (request.AddSupplier supplier key) = Integrator
asked_by s (request.SetKey supplier key) = Integrator
asked_by s (request.AddNode supplier node) = Integrator
asked_by s (request.Grant variant slot channel supplier node) = Integrator
asked_by s (request.Revoke variant slot channel supplier) = Integrator
asked_by s _ = Supplier s

-- The names and keys of a request have their form exactly where the request is not refused for one
-- of them, from an actor that may ask it, whatever the cluster.
abbrev pub MisformedRequestsAreRefused : Type 0
MisformedRequestsAreRefused = (p : Params) (s : Name) (r : Request) → have_forms (formed_in r) ≡ not (is_misformed (check p (asked_by s r) r))

-- Some cluster takes the row that a record is below a header, or the wish.
abbrev pub IsTaken : FileKind → List (List ℕ) → Type 0
IsTaken (Rows header) fields = (p : Params) × (check_params p ≡ Ok p) × (row : Row) × (row_of p header fields ≡ Ok row)
IsTaken Wishes fields = (p : Params) × (check_params p ≡ Ok p) × (wish : Wish) × (wish_of p fields ≡ Ok wish)

-- whether a cluster refuses the record for its text or a name
abbrev pub misforms : Params → FileKind → List (List ℕ) → Bool
misforms p (Rows header) fields = is_misformed (row_of p header fields)
misforms p Wishes fields = is_misformed (wish_of p fields)

-- A record of a kind is fine exactly where some cluster takes its row or wish. It is not where one
-- refuses that for its text or a name.
pub record IsFineWhereTaken (kind : FileKind) (fields : List (List ℕ)) : Type 0 where
  pub taken : is_fine_row kind fields ≡ true → IsTaken kind fields
  pub fine : IsTaken kind fields → is_fine_row kind fields ≡ true
  pub misformed : (p : Params) → misforms p kind fields ≡ true → is_fine_row kind fields ≡ false

-- So is each record.
abbrev pub FineRowsAreTaken : Type 0
FineRowsAreTaken = (kind : FileKind) (fields : List (List ℕ)) → IsFineWhereTaken kind fields

-- The file is no longer than an import may be, its first record is a header, of rows or of wishes, at most as many of these as
-- an import may have rows stand below, and each is one that some cluster takes.
pub record IsFineFile (bytes : List ℕ) : Type 0 where
  pub short : length bytes ≤ MAX_IMPORT_BYTES
  pub first : List (List ℕ)
  pub rows : List (List (List ℕ))
  pub records : records_of bytes ≡ first ∷ rows
  pub kind : FileKind
  pub known : kind_of first ≡ Some kind
  pub few : length rows ≤ MAX_ROWS
  pub taken : AllByRecursion (IsTaken kind) rows

-- What is told of a file has no fault exactly where it is such a file.
abbrev pub FineFilesAreTaken : Type 0
FineFilesAreTaken = (bytes : List ℕ) (told : List LineFaults) → AreToldOfRows bytes told → (all_fine told ≡ true) ↔ IsFineFile bytes
