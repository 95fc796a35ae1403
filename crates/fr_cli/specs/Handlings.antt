-- Handling: which registers' files a job opens, makes or migrates, and at which path. A register that it opened it closes. It handles the one at its
-- own path, and no other; and none where it could not read what it was to make or to deliver.
use Rattle.std.specs.Prelude.{◌≡◌, ◌⊎◌, ℕ, List, Option, Some, None}
use Rattle.sqlite.specs.declared.file.Leftover.{Leftover}
use Rattle.sqlite_disk.specs.declared.Disk.{Ghosts}
use Rattle.fr_base.specs.Cluster.{ClusterFile}
use Rattle.fr_cli.specs.Keys.{IsKeyGiven}
use Rattle.fr_cli.specs.Texts.{IsClusterAt, Readings, max_rows}
use Rattle.fr_cli.specs.declared.words.delivery.Delivery.{Delivery}
use Rattle.fr_cli.specs.declared.files.hindrance.Hindrance.{Hindrance}
use Rattle.fr_cli.specs.declared.files.registers.Registers as Registers

-- What was done with registers' files while a job was done.
pub record Handlings : Type 1 where
  -- No register was opened, made or migrated.
  pub none : Type 0
  -- The register at this path was opened, or that was refused; and no other.
  pub opened : List ℕ → Type 0
  -- The register at this path was opened and then closed; and no other.
  pub closed : List ℕ → Type 0
  -- The register of this cluster file was made at this path, where it could be; and no other.
  pub made : List ℕ → ClusterFile → Type 0
  -- The register at this path was migrated, where it could be; and no other.
  pub migrated : List ℕ → Type 0
  -- This was found in the way of using the register at this path.
  pub hindered : List ℕ → List Hindrance → Type 0

-- what was done while these files of registers became those
abbrev pub handlings : {G F R W : Type 0} → Registers.Ghosts G F R W → G → G → Handlings
handlings {G} registers old new = record {
  none = new ≡ old;
  opened = λ path. registers.opened old path new;
  closed = λ path. (mid : G) × registers.opened old path mid × registers.closed mid new;
  made = λ path f. registers.made old path f new;
  migrated = λ path. registers.migrated old path new;
  hindered = λ path found. registers.hinders old path found;
}

-- None was handled, and nothing is left of one.
abbrev pub AreUntouched : {D : Type 0} {g : Ghosts D} → Handlings → Option (Leftover D g) → Type 0
AreUntouched files rest = files.none × (rest ≡ None)

-- The register at the path was opened, and closed where it was not refused. What is left of one that was closed is given back.
abbrev pub IsOpenedAt : {D : Type 0} {g : Ghosts D} → Handlings → Option (Leftover D g) → List ℕ → Type 0
IsOpenedAt {D} {g} files rest db = files.opened db ⊎ (files.closed db × ((left : Leftover D g) × (rest ≡ Some left)))

-- The register of the cluster file that was read at one path was made at the other; or none was handled.
abbrev pub IsMadeAt : {D : Type 0} {g : Ghosts D} → Handlings → Option (Leftover D g) → Readings → List ℕ → List ℕ → Type 0
IsMadeAt files rest read db config = ((f : ClusterFile) × IsClusterAt read config f × files.made db f) ⊎ AreUntouched files rest

-- The register at the path was opened as the key was given; or none was handled.
abbrev pub IsAskedAs : {D : Type 0} {g : Ghosts D} → Handlings → Option (Leftover D g) → List ℕ → List ℕ → Option (List ℕ) → Option (List ℕ) → Type 0
IsAskedAs files rest db word input left = ((key : List ℕ) × IsKeyGiven word input left key × IsOpenedAt files rest db) ⊎ AreUntouched files rest

-- The register at the path was opened as the file of rows was read, and the key was given; or none was handled.
abbrev pub IsDeliveredAt : {D : Type 0} {g : Ghosts D} → Handlings → Option (Leftover D g) → Readings → List ℕ → Delivery → Option (List ℕ) → Option (List ℕ) → Type 0
IsDeliveredAt files rest read db delivery input left =
    ((body : List ℕ) × read.front max_rows delivery.file.now body × IsAskedAs files rest db delivery.key.now input left) ⊎ AreUntouched files rest
