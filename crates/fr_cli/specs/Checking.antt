-- Check: what is said of a file, and how that ends. It is a cluster file; or none, and the line begins with the word of its fault. Or its
-- lines are requests, or its records rows, and how many is said; or each fault of them has a line. Or it cannot be read, or memory is wanting.
-- What is said of the path of a request over HTTP, and of a register.
use Rattle.std.specs.Prelude.{◌≡◌, ◌⊎◌, ◌++◌, ◌-◌, ℕ, true, false, List, length, codes, decimal, string_bytes, Result, Ok, Err}
use Rattle.std.specs.Global.{Global, Vec}
use Rattle.std.specs.List.{flat_map}
use Rattle.std.specs.declared.string.String.{String}
use Rattle.fr_base.specs.Cluster.{ClusterFile}
use Rattle.fr_text.specs.ClusterFile.{config_fault_word, config_of}
use Rattle.fr_text.specs.declared.cluster_file.ConfigFault.{ConfigFault}
use Rattle.fr_guide.specs.Faults.{all_fine, all_lines, are_none}
use Rattle.fr_guide.specs.Paths.{is_fine_path}
use Rattle.fr_guide.specs.RequestFile.{AreToldOfRequests}
use Rattle.fr_guide.specs.Rows.{AreToldOfRows}
use Rattle.fr_guide.specs.declared.line_faults.LineFaults.{LineFaults}
use Rattle.fr_cli.specs.Endings.{word_line}
use Rattle.fr_text.specs.Script.{max_script, request_lines}
use Rattle.fr_cli.specs.Texts.{IsUnread, Readings, max_config, max_rows}
use Rattle.fr_cli.specs.declared.failure.Failure.{Failure}
use Rattle.fr_cli.specs.declared.failure.Failure.TheVariants as failure
use Rattle.fr_cli.specs.declared.fault.Fault.{Fault}
use Rattle.fr_cli.specs.declared.fault.Fault.TheVariants.{NoMemory}
use Rattle.fr_cli.specs.declared.files.hindrance.Hindrance.{Hindrance}
use Rattle.fr_cli.specs.declared.files.hindrance.Hindrance.TheVariants as way
use Rattle.fr_cli.specs.declared.words.check_subject.CheckSubject.{CheckSubject}
use Rattle.fr_cli.specs.declared.words.check_subject.CheckSubject.TheVariants as of

-- The bytes are a cluster file; or they are none, and the line begins with the word of their fault; or memory was wanting.
abbrev pub IsChecked : List ℕ → Result (Vec ℕ) Failure → Type 0
IsChecked bytes (Ok text) = (f : ClusterFile) × (config_of bytes ≡ Ok f)
IsChecked bytes (Err (failure.RefusedRows text)) = ⊥
IsChecked bytes (Err (failure.UnplacedWishes file lines)) = ⊥
IsChecked bytes (Err (failure.Refused line)) = (fault : ConfigFault) × (place : List ℕ) × (config_of bytes ≡ Err fault)
    × (line.items ≡ word_line (config_fault_word fault ++ codes ": " ++ place))
IsChecked bytes (Err (failure.Fault fault)) = fault ≡ NoMemory

-- the line that says that so many have no fault
abbrev pub fine_line : List ℕ → ℕ → List ℕ
fine_line what count = what ++ codes ": " ++ decimal count ++ codes ", no fault\n"

-- that of requests: how many lines are not empty
abbrev pub fine_requests : List ℕ → List LineFaults → List ℕ
fine_requests bytes told = fine_line (codes "requests") (length (request_lines bytes))

-- the line that says what a file of rows cannot tell
abbrev pub untold_line : List ℕ
untold_line = codes "the register alone knows its slots, channels and cycles, and which are granted and free\n"

-- that of rows: how many records stand below the header; and what these cannot tell
abbrev pub fine_rows : List LineFaults → List ℕ
fine_rows told = fine_line (codes "rows") (length told - 1) ++ untold_line

-- What is told of the file so has no fault, and that is said so; or each fault is a line; or memory was wanting.
abbrev pub AreChecked : (List LineFaults → Type 0) → (List LineFaults → List ℕ) → Result (Vec ℕ) Failure → Type 0
AreChecked AreTold print (Ok text) = (told : List LineFaults) × AreTold told × (all_fine told ≡ true) × (text.items ≡ print told)
AreChecked AreTold print (Err (failure.RefusedRows text)) = ⊥
AreChecked AreTold print (Err (failure.UnplacedWishes file lines)) = ⊥
AreChecked AreTold print (Err (failure.Refused line)) = (told : List LineFaults) × AreTold told × (all_fine told ≡ false) × (line.items ≡ all_lines told)
AreChecked AreTold print (Err (failure.Fault fault)) = fault ≡ NoMemory

-- a line for each fault
abbrev pub fault_lines_of : List (String Global) → List ℕ
fault_lines_of faults = flat_map (λ fault. word_line (string_bytes fault)) faults

-- The path has a form, its names are names and its numbers numbers, and that is said; or each fault is a line; or memory was wanting.
abbrev pub IsCheckedPath : List ℕ → Result (Vec ℕ) Failure → Type 0
IsCheckedPath path (Ok text) = (is_fine_path path ≡ true) × (text.items ≡ codes "path: no fault\n")
IsCheckedPath path (Err (failure.RefusedRows text)) = ⊥
IsCheckedPath path (Err (failure.UnplacedWishes file lines)) = ⊥
IsCheckedPath path (Err (failure.Refused line)) = (is_fine_path path ≡ false) × (faults : List (String Global)) × (are_none faults ≡ false)
    × (line.items ≡ fault_lines_of faults)
IsCheckedPath path (Err (failure.Fault fault)) = fault ≡ NoMemory

-- what is said of a hindrance
abbrev pub text_of_hindrance : Hindrance → List ℕ
text_of_hindrance way.Missing = codes "there is no such file"
text_of_hindrance way.Hidden = codes "you may not look at it: a folder of its path is shut to you"
text_of_hindrance way.NoFile = codes "it is a folder, a pipe or a device"
text_of_hindrance way.SecondName = codes "it has a second name, a hard link"
text_of_hindrance way.Unreadable = codes "you may not read it"
text_of_hindrance way.Unwritable = codes "you may not write it, as each command does"
text_of_hindrance way.ShutFolder = codes "its log is not there, and you may not make it in the folder"
text_of_hindrance way.InUse = codes "another program has it: a server, another command, or another SQLite"
text_of_hindrance way.Journal = codes "a -journal lies beside it: another SQLite was ended as it changed the file"
text_of_hindrance way.LogNoFile = codes "its log is a symbolic link, a folder or a pipe"
text_of_hindrance way.LogSecondName = codes "its log has a second name, a hard link"
text_of_hindrance way.ShutLog = codes "you may not read its log, or not write it"
text_of_hindrance way.LogInUse = codes "another program has its log"
text_of_hindrance way.NoDatabase = codes "it is no SQLite database"
text_of_hindrance way.NoRegister = codes "it is a database without a register"
text_of_hindrance way.OtherSchema = codes "its schema is not 2: slotplan migrate takes one of schema 1"
text_of_hindrance way.Damaged = codes "the database is damaged, or its tables and rows make no register"
text_of_hindrance way.ReadFailed = codes "a read of it failed, or it was gone before all was looked at"

-- a line for each
abbrev pub hindrance_lines_of : List Hindrance → List ℕ
hindrance_lines_of found = flat_map (λ hindrance. word_line (text_of_hindrance hindrance)) found

-- Nothing was found in the way of using a register, and nothing is said; or each thing that was is a line; or memory was wanting.
abbrev pub IsCheckedRegister : (List Hindrance → Type 0) → Result (Vec ℕ) Failure → Type 0
IsCheckedRegister WereFound (Ok text) = (found : List Hindrance) × WereFound found × (are_none found ≡ true) × (text.items ≡ hindrance_lines_of found)
IsCheckedRegister WereFound (Err (failure.RefusedRows text)) = ⊥
IsCheckedRegister WereFound (Err (failure.UnplacedWishes file lines)) = ⊥
IsCheckedRegister WereFound (Err (failure.Refused line)) = (found : List Hindrance) × WereFound found × (are_none found ≡ false) × (line.items ≡ hindrance_lines_of found)
IsCheckedRegister WereFound (Err (failure.Fault fault)) = fault ≡ NoMemory

-- The file at the path cannot be read; or bytes were read of it, of which this is so, and checked so.
abbrev pub IsCheckedText : Readings → List ℕ → (List ℕ → Type 0) → (List ℕ → Result (Vec ℕ) Failure → Type 0) → Result (Vec ℕ) Failure → Type 0
IsCheckedText read path WasRead IsCheckedAs done = ((fault : Fault) × (done ≡ Err (failure.Fault fault)) × IsUnread read path fault)
    ⊎ ((bytes : List ℕ) × WasRead bytes × IsCheckedAs bytes done)

-- Such a file is checked so: all of it, or of a file of rows a front. Of a path and of a register no text is read.
abbrev pub IsCheckedFile : Readings → (List ℕ → List Hindrance → Type 0) → CheckSubject → Result (Vec ℕ) Failure → Type 0
IsCheckedFile read hindered (of.Config path) done = IsCheckedText read path.now (read.whole max_config path.now) IsChecked done
IsCheckedFile read hindered (of.Requests path) done = IsCheckedText read path.now (read.whole max_script path.now)
    (λ bytes. AreChecked (AreToldOfRequests bytes) (fine_requests bytes)) done
IsCheckedFile read hindered (of.Rows path) done = IsCheckedText read path.now (read.front max_rows path.now) (λ bytes. AreChecked (AreToldOfRows bytes) fine_rows) done
IsCheckedFile read hindered (of.Target path) done = read.none × IsCheckedPath path.now done
IsCheckedFile read hindered (of.Register path) done = read.none × IsCheckedRegister (hindered path.now) done
