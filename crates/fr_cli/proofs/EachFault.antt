-- Each word of a fault is explained.
use Rattle.std.proofs.Common.{◌≡◌, true, refl}
use Rattle.fr_guide.proofs.EachWord as word
use Rattle.fr_guide.specs.Topics.{explained, is_explained}
use Rattle.fr_http.specs.declared.fault.LinkFault.{LinkFault}
use Rattle.fr_http.specs.declared.fault.LinkFault.TheVariants as link
use Rattle.fr_store.specs.declared.fault.StoreFault.TheVariants as store
use Rattle.fr_cli.specs.Faults.{fault_word, link_word}
use Rattle.fr_cli.specs.declared.fault.Fault.{Fault}
use Rattle.fr_cli.specs.declared.fault.Fault.TheVariants.{Script, Config, Register, CannotOpen, CannotListen, NoMemory, WriteFailed}
use Rattle.fr_cli.specs.declared.script_fault.ScriptFault.TheVariants as script

pub faults : (f : Fault) → is_explained (fault_word f) ≡ true
unfolding explained
faults (Script script.TooLong) = refl
faults (Script script.TooManyReads) = refl
faults (Script script.ReadFailed) = refl
faults (Script script.NoSeparator) = refl
faults (Script (script.Config fault)) = word.faults fault
faults (Script script.Unavailable) = refl
faults (Script script.NoMemory) = refl
faults (Script script.WriteFailed) = refl
faults (Config fault) = word.faults fault
faults (Register store.NotEmpty) = refl
faults (Register store.NotARegister) = refl
faults (Register store.WrongSchema) = refl
faults (Register store.Unavailable) = refl
faults CannotOpen = refl
faults CannotListen = refl
faults NoMemory = refl
faults WriteFailed = refl

pub links : (f : LinkFault) → is_explained (link_word f) ≡ true
unfolding explained
links link.Truncated = refl
links link.ReadFailed = refl
links link.TooManyReads = refl
links (link.WriteFailed asked) = refl
links (link.NoMemory asked) = refl
