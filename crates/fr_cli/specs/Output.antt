-- Output: what the run of a script writes. These are the answers to its lines from the register's opening book, each
-- answer's text on a line of its own. Each supplier is answered as if it were alone, there is no collision after any
-- line, and the book at the end is sound. The script is not too long and its cluster well formed. What stands where a
-- run ended early: the answers up to some request.
use Rattle.std.specs.Prelude.{◌≡◌, ◌≤◌, ℕ, List, [], ◌∷◌, ◌++◌, length, codes, Option, Some, Result, Ok, option_map}
use Rattle.std.specs.List.{flat_map}
use Rattle.fr_base.specs.Book.{Book, opening}
use Rattle.fr_base.specs.Cluster.{ClusterFile, IsWellFormed}
use Rattle.fr_base.specs.Sound.{IsSound}
use Rattle.fr_base.specs.declared.answer.Answer.{Answer}
use Rattle.fr_base.specs.declared.name.Name.{Name}
use Rattle.fr_text.specs.AnswerText.{text_of}
use Rattle.fr_text.specs.ClusterFile.{config_of}
use Rattle.fr_text.specs.Script.{max_script, parts_of, request_lines}
use Rattle.fr_cli.specs.ScriptRun.{AreAnswered, AreAsIfAlone, WasCollisionFreeAfter}
use Rattle.fr_text.specs.declared.cluster_file.ConfigFault.{ConfigFault}

-- each answer on a line of its own
abbrev pub text_of_answers : List Answer → List ℕ
text_of_answers answers = flat_map (λ answer. text_of answer ++ codes "\n") answers

-- The bytes answer the lines: from the register that was just made the lines may be answered so, and the bytes are the text of
-- one answer for each line. Each supplier is answered as if it were alone. In every variant, cycle, slot and channel at most one frame is
-- sent, by the node that holds the grant, after each line; and the register that is reached is sound.
pub record IsAnswered (f : ClusterFile) (lines : List (List ℕ)) (written : List ℕ) : Type 0 where
  pub answers : List Answer
  pub last : Book
  pub answered : AreAnswered f.cluster (opening f) lines answers last
  pub bytes : written ≡ text_of_answers answers
  pub alone : (s : Name) → AreAsIfAlone s f lines answers last
  pub collision_free : (n : ℕ) → WasCollisionFreeAfter f lines answers n
  pub sound : IsSound f.cluster last

-- The bytes answer the lines up to those that are left.
pub record IsAnsweredTo (f : ClusterFile) (lines left : List (List ℕ)) (written : List ℕ) : Type 0 where
  pub front : List (List ℕ)
  pub all : lines ≡ front ++ left
  pub answered : IsAnswered f front written

-- what the script's cluster file says, if a line ends it
abbrev pub cluster_in : List ℕ → Option (Result ClusterFile ConfigFault)
cluster_in script = option_map (λ parts. config_of parts.0) (parts_of script)

-- the lines of the script's requests, if a line ends its cluster file
abbrev pub lines_in : List ℕ → Option (List (List ℕ))
lines_in script = option_map (λ parts. request_lines parts.1) (parts_of script)

-- The bytes answer the script's requests up to those that are left. The script is not too long, and what its cluster file
-- says is well formed, so that the laws of soundness and of runs hold of its register.
pub record IsOutputTo (script : List ℕ) (left : List (List ℕ)) (written : List ℕ) : Type 0 where
  pub size : length script ≤ max_script
  pub config : ClusterFile
  pub formed : IsWellFormed config
  pub lines : List (List ℕ)
  pub file : cluster_in script ≡ Some (Ok config)
  pub requests : lines_in script ≡ Some lines
  pub answered : IsAnsweredTo config lines left written

-- The bytes are the output of the script.
abbrev pub IsOutput : List ℕ → List ℕ → Type 0
IsOutput script written = IsOutputTo script [] written
