-- Run of a script: it ends with the script's output, with the numbers of its lines or without, or with a fault. What the fault says of the script,
-- and what was written before it.
use Rattle.std.specs.Prelude.{◌≡◌, ◌⊎◌, ◌<◌, ◌≤◌, ℕ, Bool, List, length, Option, Some, None, Result, Ok, Err, IfSome, IsErrOf, OnOk, ⊤}
use Rattle.std.specs.Io.KnownBytes.{Appends, IsAtEnd, Keeps}
use Rattle.fr_base.specs.Cluster.{ClusterFile, IsWellFormed}
use Rattle.fr_text.specs.declared.cluster_file.ConfigFault.{ConfigFault}
use Rattle.fr_text.specs.declared.cluster_file.ConfigFault.TheVariants as cluster
use Rattle.fr_cli.specs.NumberedOutput.{IsCutShort, IsWrittenOf, LacksMemory}
use Rattle.fr_cli.specs.Output.{cluster_in}
use Rattle.fr_text.specs.Script.{max_script}
use Rattle.fr_cli.specs.declared.script_fault.ScriptFault.{ScriptFault}
use Rattle.fr_cli.specs.declared.script_fault.ScriptFault.TheVariants.{TooLong, TooManyReads, ReadFailed, NoSeparator, Config, Unavailable, NoMemory, WriteFailed}

-- The script's cluster file is one.
abbrev pub HasCluster : List ℕ → Type 0
HasCluster script = (f : ClusterFile) × IsWellFormed f × (cluster_in script ≡ Some (Ok f))

-- The run ended so: the reader had this script and has this left, and the writer had the old bytes and has the new ones.
pub record IsRunOf (numbered : Bool) (script left old new : Option (List ℕ)) (done : Result ⊤ ScriptFault) : Type 0 where
  pub output : OnOk done (IfSome script (λ s. (written : List ℕ) × Appends old new written × IsWrittenOf numbered s written))
  pub whole_script : OnOk done (IsAtEnd left)
  pub too_long : IsErrOf done TooLong → Keeps old new × IfSome script (λ s. max_script < length s)
  pub too_many_reads : IsErrOf done TooManyReads → Keeps old new
  pub read_failed : IsErrOf done ReadFailed → Keeps old new
  pub no_separator : IsErrOf done NoSeparator → Keeps old new × IsAtEnd left × IfSome script (λ s. (length s ≤ max_script) × (cluster_in s ≡ None))
  pub config : (fault : ConfigFault) → IsErrOf done (Config fault) → Keeps old new × IsAtEnd left
      × IfSome script (λ s. (length s ≤ max_script) × ((cluster_in s ≡ Some (Err fault)) ⊎ (fault ≡ cluster.NoMemory)))
  pub no_memory : IsErrOf done NoMemory → Keeps old new
      ⊎ IfSome script (λ s. (written : List ℕ) × Appends old new written × LacksMemory numbered s written)
  pub write_failed : IsErrOf done WriteFailed → IfSome script (λ s. (written : List ℕ) × Appends old new written × IsCutShort numbered s written)
  pub unavailable : IsErrOf done Unavailable → Keeps old new × IsAtEnd left × IfSome script (λ s. (length s ≤ max_script) × HasCluster s)
