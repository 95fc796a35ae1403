-- What a desk says of a file that it refuses, also where there is none.
use Rattle.std.proofs.Common.{Option, None, inl, inr, refl}
use Rattle.sqlite.specs.declared.file.Leftover.{Leftover}
use Rattle.sqlite_disk.specs.declared.Disk.{Ghosts}
use Rattle.sqlite_wal.specs.Recovery.{Image}
use Rattle.fr_store.specs.Refused.{IsRefusedBy, IsUnavailable, NeedsNone, Refusing}
use Rattle.fr_store.specs.declared.fault.StoreFault.{StoreFault}
use Rattle.fr_store.specs.declared.fault.StoreFault.TheVariants.{NotARegister}

module _ {D : Type 0} {g : Ghosts D} where
  pub also_none : (call : Refusing) (held : Image) (fault : StoreFault) (rest : Option (Leftover D g)) → IsRefusedBy call IsUnavailable held fault rest
      → IsRefusedBy call NeedsNone held fault rest
  also_none call held fault rest h = record { tells = h.tells; left = h.left; lost = λ none. inl (h.lost none) }

  pub no_file : (call : Refusing) (held : Image) → call.tells NotARegister → IsRefusedBy {D = D} {g = g} call NeedsNone held NotARegister None
  no_file call held tells = record { tells = tells; left = tt; lost = λ none. inr refl }
