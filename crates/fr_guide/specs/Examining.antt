-- Finding: the bytes are found to be a cluster file; or they are found not to be one, and the text
-- begins with the word of their fault.
use Rattle.std.specs.Prelude.{◌≡◌, ℕ, List, ◌++◌, codes, Ok, Err}
use Rattle.fr_base.specs.Cluster.{ClusterFile}
use Rattle.fr_text.specs.ClusterFile.{config_fault_word, config_of}
use Rattle.fr_text.specs.declared.cluster_file.ConfigFault.{ConfigFault}
use Rattle.fr_guide.specs.declared.finding.Finding.{Finding}
use Rattle.fr_guide.specs.declared.finding.Finding.TheVariants.{Good, Bad}

-- The bytes are a cluster file; or they are not, and the text begins with the word of their fault.
abbrev pub IsFinding : List ℕ → Finding → Type 0
IsFinding bytes (Good text) = (f : ClusterFile) × (config_of bytes ≡ Ok f)
IsFinding bytes (Bad text) = (fault : ConfigFault) × (place : List ℕ) × (config_of bytes ≡ Err fault)
    × (text.items ≡ config_fault_word fault ++ codes ": " ++ place)
