-- Guarding: the office that is guarded. Why a register's files are not watched, and for which fault a job then ends.
use Rattle.std.specs.declared.io.ErrorKind.{ErrorKind}
use Rattle.std.specs.declared.io.ErrorKind.TheVariants.{OutOfMemory}
use Rattle.fr_office.specs.declared.office.Office.{Office}
use Rattle.fr_store.specs.declared.fault.StoreFault.TheVariants as store
use Rattle.fr_cli.specs.declared.fault.Fault.{Fault}
use Rattle.fr_cli.specs.declared.fault.Fault.TheVariants as fault
use Rattle.fr_cli.specs.declared.jobs.guarded.Guarded.{Guarded}
use Rattle.fr_cli.specs.declared.script_fault.ScriptFault.{ScriptFault}
use Rattle.fr_cli.specs.declared.script_fault.ScriptFault.TheVariants as script
use Rattle.fr_cli.specs.declared.files.watch.WatchFault.{WatchFault}
use Rattle.fr_cli.specs.declared.files.watch.WatchFault.TheVariants as watch

-- the office that it guards
abbrev pub office_of : {R W : Type 0} → Guarded R W → Office R
office_of guarded = guarded.office

-- why they are not watched, by the kind of error with which they were looked at
abbrev pub watch_fault_of : ErrorKind → WatchFault
watch_fault_of OutOfMemory = watch.NoMemory
watch_fault_of _ = watch.Unavailable

-- the fault of a job whose register is not watched
abbrev pub fault_unwatched : WatchFault → Fault
fault_unwatched watch.NoMemory = fault.NoMemory
fault_unwatched watch.Unavailable = fault.Register store.Unavailable

-- the same of requests that come in
abbrev pub script_fault_unwatched : WatchFault → ScriptFault
script_fault_unwatched watch.NoMemory = script.NoMemory
script_fault_unwatched watch.Unavailable = script.Unavailable
