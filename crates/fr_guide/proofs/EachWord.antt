-- Each refusal's name, and each word of a cluster file's faults, is explained.
use Rattle.std.proofs.Common.{◌≡◌, true, refl}
use Rattle.std.specs.Prelude.{codes}
use Rattle.fr_base.specs.Refusals.{name_of}
use Rattle.fr_base.specs.declared.params.ParamFault.TheVariants.{BadSlots, BadPayload, BadMacroticks, BadSum, BadCycleCount}
use Rattle.fr_base.specs.declared.refusal.Refusal.{Refusal}
use Rattle.fr_base.specs.declared.refusal.Refusal.TheVariants as refusal
use Rattle.fr_text.specs.ClusterFile.{config_fault_word}
use Rattle.fr_text.specs.declared.cluster_file.ConfigFault.{ConfigFault}
use Rattle.fr_text.specs.declared.cluster_file.ConfigFault.TheVariants as fault
use Rattle.fr_guide.specs.Topics.{explained, is_explained}

pub refusals : (r : Refusal) → is_explained (name_of r) ≡ true
unfolding explained
refusals refusal.BadText = refl
refusals refusal.UnknownKey = refl
refusals refusal.NotYours = refl
refusals refusal.BadName = refl
refusals refusal.BadCycles = refl
refusals refusal.BadSlot = refl
refusals refusal.BadChannel = refl
refusals refusal.BadSignal = refl
refusals refusal.LabelUsed = refl
refusals refusal.NoVariant = refl
refusals refusal.Released = refl
refusals refusal.NotReleased = refl
refusals refusal.TooDeep = refl
refusals refusal.NoSupplier = refl
refusals refusal.NoNode = refl
refusals refusal.NoFrame = refl
refusals refusal.NoSignal = refl
refusals refusal.NoPlacement = refl
refusals refusal.Exists = refl
refusals refusal.NodeDiffers = refl
refusals refusal.NotGranted = refl
refusals refusal.InUse = refl
refusals refusal.Limit = refl
refusals refusal.Taken = refl
refusals (refusal.CellTaken cycle channel frame) = refl
refusals refusal.OutOfPayload = refl
refusals (refusal.BitTaken bit signal) = refl
refusals refusal.Unavailable = refl
refusals refusal.BadKey = refl
refusals refusal.KeyTaken = refl
refusals refusal.NoRoom = refl

pub rows : is_explained (codes "BadRow") ≡ true
unfolding explained
rows = refl

pub faults : (f : ConfigFault) → is_explained (config_fault_word f) ≡ true
unfolding explained
faults fault.BadToml = refl
faults fault.BadField = refl
faults (fault.Params BadSlots) = refl
faults (fault.Params BadPayload) = refl
faults (fault.Params BadMacroticks) = refl
faults (fault.Params BadSum) = refl
faults (fault.Params BadCycleCount) = refl
faults fault.Limit = refl
faults fault.BadName = refl
faults fault.BadKey = refl
faults fault.KeyTwice = refl
faults fault.NoMemory = refl
