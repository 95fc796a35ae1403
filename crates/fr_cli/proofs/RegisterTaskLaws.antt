-- What is said of what was done over a register's file, whether that was opened or not.
use Rattle.std.proofs.Common.{◌≡◌, Option, Some, Result, Err, inl, inr, refl, subst, sym}
use Rattle.sqlite.specs.Files.{IsCleanLeft}
use Rattle.sqlite.specs.declared.file.Leftover.{Leftover}
use Rattle.sqlite_disk.specs.declared.Disk.{Ghosts}
use Rattle.sqlite_wal.specs.Recovery.{Image}
use Rattle.fr_base.specs.Book.{Book}
use Rattle.fr_base.specs.Cluster.{Cluster}
use Rattle.fr_base.specs.Desks.{InSound}
use Rattle.fr_base.specs.declared.desk.Desk as Desk
use Rattle.fr_desks.specs.FileDesk.{FindsHeld, FindsRegister, Held, IsLeftWith}
use Rattle.fr_world.specs.Held.{Standing}
use Rattle.fr_cli.specs.Faults.{IsNotOpened}
use Rattle.fr_cli.specs.Opened.{IsOver}
use Rattle.fr_cli.specs.RegisterTasks.{Doing, IsDoneOver}
use Rattle.fr_cli.specs.declared.fault.Fault.{Fault}

-- Such a register was opened, asked and closed.
pub over : {D : Type 0} {g : Ghosts D} {held : Image} {left : Leftover D g} {clean before : Type 0} {old new : Standing} → (IsCleanLeft left → clean) → (clean → before)
    → FindsHeld held before old → FindsRegister held before old → ((c : Cluster) (b : Book) → new c b → IsLeftWith left c b) → IsOver held (Some left) left clean old new
over closes falls finds reads leaves = record {
  left = (refl, λ kept. let (f, db, found, register, stood) = reads (falls (closes kept)) in (f, db, found, register));
  finds = λ up. finds (falls up);
  closes = closes;
  leaves = leaves;
}

module _ {D : Type 0} {g : Ghosts D} {held : Image} {rest : Option (Leftover D g)} {R X Y : Type 0} {desk : Desk.Ghosts R} {same : Type 0} where
  -- It is said where the file was not opened, and where it was done with a register over it.
  pub done_over : (into : Fault → Y) (P : Result X Y → Type 0) (does : Doing X Y) {done : Result X Y} → IsDoneOver held rest desk (λ fault of. of ≡ into fault) same does done
      → ((fault : Fault) → IsNotOpened held rest fault → same → P (Err (into fault)))
      → ((last : Leftover D g) (old new : R) → IsOver held rest last (desk.clean new) (desk.stands old) (desk.stands new) → does R desk old new done → P done) → P done
  done_over into P does (inl (fault, not, of, is, gives, kept)) refused did = subst P (sym is) (subst (λ of. P (Err of)) (sym gives) (refused fault not kept))
  done_over into P does (inr (last, old, new, over, so)) refused did = did last old new over so

-- What leads from a book to one after it, over a file, leads so in the file.
pub leads_over : {D : Type 0} {g : Ghosts D} {held : Image} {rest : Option (Leftover D g)} {left : Leftover D g} {clean : Type 0} {old new : Standing} (leads : Cluster → Book → Book → Type 0)
    → IsOver held rest left clean old new → (clean → InSound old (λ c b. (last : Book) × leads c b last × new c last))
    → IsCleanLeft left → InSound (Held held) (λ c b. (last : Book) × leads c b last × IsLeftWith left c last)
leads_over leads over is kept c b there sound =
    let up = over.closes kept in let led = is up c b (over.finds up c b there) sound in (led.0, led.1, over.leaves c led.0 led.2)
