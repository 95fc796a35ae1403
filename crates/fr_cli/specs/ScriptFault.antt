-- Script's faults: the word of each fault that ends a run.
use Rattle.std.specs.Prelude.{ℕ, List, codes}
use Rattle.fr_text.specs.ClusterFile.{config_fault_word}
use Rattle.fr_cli.specs.declared.script_fault.ScriptFault.{ScriptFault}
use Rattle.fr_cli.specs.declared.script_fault.ScriptFault.TheVariants.{TooLong, TooManyReads, ReadFailed, NoSeparator, Config, Unavailable, NoMemory, WriteFailed}
use Rattle.fr_cli.specs.declared.streams.input.InputFault.{InputFault}
use Rattle.fr_cli.specs.declared.streams.input.InputFault.TheVariants as input

-- the fault's word, as it is printed
abbrev pub script_fault_word : ScriptFault → List ℕ
script_fault_word TooLong = codes "TooLong"
script_fault_word TooManyReads = codes "TooManyReads"
script_fault_word ReadFailed = codes "ReadFailed"
script_fault_word NoSeparator = codes "NoSeparator"
script_fault_word (Config fault) = config_fault_word fault
script_fault_word Unavailable = codes "Unavailable"
script_fault_word NoMemory = codes "NoMemory"
script_fault_word WriteFailed = codes "WriteFailed"

-- the fault of a script that could not be read
abbrev pub script_fault_of : InputFault → ScriptFault
script_fault_of input.TooLong = TooLong
script_fault_of input.TooManyReads = TooManyReads
script_fault_of input.ReadFailed = ReadFailed
script_fault_of input.NoMemory = NoMemory
