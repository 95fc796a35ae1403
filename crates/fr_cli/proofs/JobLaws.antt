-- What is said of a job by its words, and of what is left by another name, is said of the job.
use Rattle.std.proofs.Common.{◌≡◌, List, Option, subst, sym, ℕ}
use Rattle.sqlite.specs.declared.file.Leftover.{Leftover}
use Rattle.sqlite_disk.specs.declared.Disk.{Ghosts}
use Rattle.sqlite_wal.specs.Recovery.{Image}
use Rattle.fr_base.specs.declared.desk.Desk as Desk
use Rattle.fr_cli.specs.Handlings.{Handlings}
use Rattle.fr_cli.specs.Jobs.{IsPerformed, Streams, path_of}
use Rattle.fr_cli.specs.Texts.{Readings}
use Rattle.fr_cli.specs.Visits.{Comings, SinkGhosts}
use Rattle.fr_cli.specs.declared.words.Job.{Job}

pub performed : {D R O E : Type 0} {g : Ghosts D} {printed : SinkGhosts O} {told : SinkGhosts E} (desk : Desk.Ghosts R) (holds : List ℕ → Image) (rest : Option (Leftover D g)) (read : Readings)
    (files : Handlings) (comings : Comings) (s : Streams printed told) (status : ℕ) {job of : Job} {left : Option (Leftover D g)} → job ≡ of → rest ≡ left
    → IsPerformed desk (holds (path_of of)) left read files comings of s status → IsPerformed desk (holds (path_of job)) rest read files comings job s status
performed desk holds rest read files comings s status {job} {of} {left} is same did =
    subst (λ j. IsPerformed desk (holds (path_of j)) rest read files comings j s status) (sym is) (subst (λ r. IsPerformed desk (holds (path_of of)) r read files comings of s status) (sym same) did)
