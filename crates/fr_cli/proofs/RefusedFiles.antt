-- Why a register's file is refused, from what its desk says of it.
use Rattle.std.proofs.Common.{Option, Some, None, refl}
use Rattle.sqlite.specs.declared.file.Leftover.{Leftover}
use Rattle.sqlite_disk.specs.declared.Disk.{Ghosts}
use Rattle.sqlite_wal.specs.Recovery.{Image}
use Rattle.fr_base.specs.Cluster.{ClusterFile}
use Rattle.fr_cli.specs.Faults.{IsCaused, IsNotMade, IsNotMigrated, IsNotOpened}
use Rattle.fr_cli.specs.declared.fault.Fault.TheVariants.{Register}
use Rattle.fr_store.specs.Refused.{IsRefusedBy, IsSpared, IsUnavailable, NeedsNone, Refusing, makes_closed, migrates, opens}
use Rattle.fr_store.specs.declared.fault.StoreFault.{StoreFault}
use Rattle.fr_store.specs.declared.fault.StoreFault.TheVariants.{Unavailable}

module _ {D : Type 0} {g : Ghosts D} (held : Image) where
  -- for such a cause
  is_caused : (call : Refusing) (Without : StoreFault → Type 0) (rest : Option (Leftover D g)) (fault : StoreFault) → ((left : Leftover D g) → IsSpared fault left → call.spares fault left)
      → IsRefusedBy call Without held fault rest → IsCaused held rest call.files Without call.commits fault
  is_caused call Without None fault spares h = h.lost refl
  is_caused call Without (Some left) fault spares h = λ clean. let said = h.left clean in (said.cause, λ spared. said.stays (spares left spared), said.finds)

  pub not_opened : (rest : Option (Leftover D g)) (fault : StoreFault) → IsRefusedBy opens NeedsNone held fault rest → IsNotOpened held rest (Register fault)
  not_opened rest fault h = (h.tells, is_caused opens NeedsNone rest fault (λ left spared. spared) h)

  pub not_migrated : (rest : Option (Leftover D g)) (fault : StoreFault) → IsRefusedBy migrates NeedsNone held fault rest → IsNotMigrated held rest (Register fault)
  not_migrated rest fault h = (h.tells, is_caused migrates NeedsNone rest fault (λ left spared. spared) h)

  pub not_made : (f : ClusterFile) (rest : Option (Leftover D g)) (fault : StoreFault) → IsRefusedBy (makes_closed f) IsUnavailable held fault rest → IsNotMade held rest f (Register fault)
  not_made f rest fault h = (fault, refl, h.tells, is_caused (makes_closed f) IsUnavailable rest fault (λ left spared. spared) h)

  -- Files of which one was opened before are refused, and nothing is left of them.
  pub not_begun : (call : Refusing) (Without : StoreFault → Type 0) → call.tells Unavailable → Without Unavailable → IsRefusedBy {D = D} {g = g} call Without held Unavailable None
  not_begun call Without tells lost = record { tells = tells; left = tt; lost = λ none. lost }
