-- Texts: what is read of the files of the command line that are texts. A file is opened by its path. All is read that its
-- reader has, where that is known; or of a file of rows a front, one byte more than it may have.
use Rattle.std.specs.Global.{Vec}
use Rattle.std.specs.Prelude.{◌≡◌, ◌⊎◌, ◌≤◌, ℕ, List, length, take, IfErr, IfOk, IfSome, Ok, Result}
use Rattle.std.specs.declared.io.Read as Read
use Rattle.fr_base.specs.Cluster.{ClusterFile}
use Rattle.fr_text.specs.ClusterFile.{config_of}
use Rattle.fr_cli.specs.declared.fault.Fault.{Fault}
use Rattle.fr_cli.specs.declared.fault.Fault.TheVariants.{CannotOpen, NoMemory}
use Rattle.fr_cli.specs.declared.files.text_files.TextFiles as TextFiles

-- how many bytes a cluster file has at most
abbrev pub max_config : ℕ
max_config = 1048576

-- how many bytes of a file of rows are read at most: one more than it may have
abbrev pub max_rows : ℕ
max_rows = 65537

module _ {F R : Type 0} (files : TextFiles.Ghosts F R) (reader : Read.Ghosts R) where
  -- The file at the path was opened, and this text was read of it: this part of what its reader had, where that is known, and
  -- not more bytes than so many.
  pub record IsReadFrom (part : List ℕ → List ℕ) (most : ℕ) (path text : List ℕ) (old new : F) : Type 0 where
    pub input : R
    pub opened : files.opens old path input new
    pub given : IfSome (reader.remaining input) (λ all. text ≡ part all)
    pub few : length text ≤ most

-- What was read of text files while a job was done.
pub record Readings : Type 1 where
  -- No file was opened.
  pub none : Type 0
  -- The file at this path was opened.
  pub opened : List ℕ → Type 0
  -- The file at this path was opened, and has this text, which has so many bytes at most.
  pub whole : ℕ → List ℕ → List ℕ → Type 0
  -- The file at this path was opened, and its text begins so: these are so many bytes, or its whole text, if that has fewer.
  pub front : ℕ → List ℕ → List ℕ → Type 0

-- what was read while files became other files
abbrev pub readings : {F R : Type 0} → TextFiles.Ghosts F R → Read.Ghosts R → F → F → Readings
readings {F} {R} files reader old new = record {
  none = new ≡ old;
  opened = λ path. (input : R) × files.opens old path input new;
  whole = λ most path text. IsReadFrom files reader (λ all. all) most path text old new;
  front = λ most path text. IsReadFrom files reader (take most) most path text old new;
}

-- For this no text is read of the file at the path: it cannot be opened, or not be read within its bounds; or memory is wanting
-- for what it has.
abbrev pub IsUnread : Readings → List ℕ → Fault → Type 0
IsUnread read path fault = ((fault ≡ CannotOpen) × (read.none ⊎ read.opened path)) ⊎ ((fault ≡ NoMemory) × read.opened path)

module _ {F R : Type 0} (files : TextFiles.Ghosts F R) (reader : Read.Ghosts R) where
  -- A call read the file at the path, which has so many bytes at most; or not, for such a cause.
  pub record ReadsWhole (most : ℕ) (path : List ℕ) (old new : F) (done : Result (Vec ℕ) Fault) : Type 0 where
    pub whole : IfOk done (λ text. (readings files reader old new).whole most path text.items)
    pub fault : IfErr done (IsUnread (readings files reader old new) path)

  -- A call read so many bytes of the file at the path, or all, if it has fewer; or none, for such a cause.
  pub record ReadsFront (most : ℕ) (path : List ℕ) (old new : F) (done : Result (Vec ℕ) Fault) : Type 0 where
    pub front : IfOk done (λ text. (readings files reader old new).front most path text.items)
    pub fault : IfErr done (IsUnread (readings files reader old new) path)

-- The file at the path was read, and is this cluster file.
abbrev pub IsClusterAt : Readings → List ℕ → ClusterFile → Type 0
IsClusterAt read path f = (text : List ℕ) × read.whole max_config path text × (config_of text ≡ Ok f)
