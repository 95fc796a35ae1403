-- What files still hold that were not opened.
use Rattle.std.proofs.Common.{◌≡◌, ◌⊎◌, ◌∙◌, inl, inr, Option, Some, None, subst, sym}
use Rattle.std.proofs.Math.Logic.{∥∥₁_map}
use Rattle.sqlite.specs.Effect.{Database, IsDatabase}
use Rattle.sqlite.specs.Files.{HoldsDatabase, IsCleanLeft}
use Rattle.sqlite.specs.Tree.{Trees}
use Rattle.sqlite.specs.declared.file.Leftover.{Leftover}
use Rattle.sqlite.specs.declared.file.Leftover.TheVariants as left
use Rattle.sqlite_disk.specs.declared.Disk.{Ghosts}
use Rattle.sqlite_wal.specs.Recovery.{Image}
use Rattle.fr_store.specs.Refused.{FindsStill, HoldsStill, IsSpared}
use Rattle.fr_store.specs.Store.{IsRegisterFor}
use Rattle.fr_store.specs.StoreFiles.{IsHeld, database_of, image_left, outcomes_left}
use Rattle.fr_store.specs.declared.fault.StoreFault.{StoreFault}
use Rattle.fr_cli.specs.Faults.{IsNotOpened}
use Rattle.fr_cli.specs.Series.{HoldsOn, IsClear, IsNextOf}
use Rattle.fr_cli.specs.declared.fault.Fault.{Fault}
use Rattle.fr_cli.specs.declared.fault.Fault.TheVariants.{CannotListen, CannotOpen, Config, NoMemory, Register, Script, WriteFailed}

-- Where each database that was held is held, so is each book.
each_book : (held next : Image) → ((d : Database) → IsDatabase d → HoldsDatabase held d.trees → IsHeld next d) → HoldsOn held next
each_book held next keeps c b (inl book) = ∥∥₁_map book.register.held.holds (λ there. inl (record {
  trees = book.trees;
  register = record { held = keeps (database_of book.trees) book.register.held.sound there; is = book.register.is };
  for = book.for;
}))
each_book held next keeps c b (inr (db, there, is)) =
    let d : Database = record { schema = there.2.schema; trees = db } in
    ∥∥₁_map (keeps d there.2.sound there).holds (λ now. inr (db, now, is))

-- what an open finds in a store
by_store : (held next : Image) (db : Trees) → HoldsDatabase next db → ((trees : Trees) → HoldsDatabase held trees → db ≡ trees) → HoldsOn held next
by_store held next db now only c b (inl book) = ∥∥₁_map book.register.held.holds (λ there.
    let is : IsRegisterFor c b (database_of book.trees) = record { has = book.register.is.has; for = book.for } in
    inr (db, now, subst (λ trees. IsRegisterFor c b (database_of trees)) (sym (only book.trees there)) is))
by_store held next db now only c b (inr (trees, there, is)) =
    ∣ inr (db, now, subst (λ trees. IsRegisterFor c b (database_of trees)) (sym (only trees there)) is) ∣₁

module _ {D : Type 0} {g : Ghosts D} (held next : Image) where
  -- the files as they are, or as a crash leaves them
  by_files : (rest : Leftover D g) → HoldsStill held rest → (next ≡ image_left rest) ⊎ outcomes_left rest next → HoldsOn held next
  by_files rest still (inl same) = each_book held next (λ d is there. subst (λ image. IsHeld image d) (sym same) (still.untouched d is there))
  by_files rest still (inr crash) = each_book held next (still.survives next crash)

  by_kind : (rest : Leftover D g) (fault : StoreFault) → (IsSpared fault rest → HoldsStill held rest) → FindsStill held (λ db. ⊥) rest → IsClear rest (Register fault)
      → IsNextOf rest next → HoldsOn held next
  by_kind (left.Files files) fault stays finds clear opened = by_files (left.Files files) (stays tt) opened
  by_kind (left.Unopened files) fault stays finds clear opened = by_files (left.Unopened files) (stays (λ is. clear cc)) opened
  by_kind (left.Store it) fault stays finds clear (db, found, now) = elim (finds db found) [
    | inl alone ↦ by_store held next db now alone.only
    | inr none ↦ absurd none
  ]

  -- by a fault for which files are not opened
  by_fault : (rest : Leftover D g) (fault : Fault) → IsNotOpened held (Some rest) fault → IsClear rest fault → IsCleanLeft rest → IsNextOf rest next → HoldsOn held next
  by_fault rest (Register fault) (other, caused) clear is opened = let (why, stays, finds) = caused is in by_kind rest fault stays finds clear opened
  by_fault rest (Script fault) not clear is opened = absurd not
  by_fault rest (Config fault) not clear is opened = absurd not
  by_fault rest CannotOpen not clear is opened = absurd not
  by_fault rest CannotListen not clear is opened = absurd not
  by_fault rest NoMemory not clear is opened = absurd not
  by_fault rest WriteFailed not clear is opened = absurd not

-- So what is left, if anything is.
pub holds_on : {D : Type 0} {g : Ghosts D} (held next : Image) (rest : Option (Leftover D g)) (fault : Fault) → (rest ≡ None) ⊎ IsNotOpened held rest fault
    → (left : Leftover D g) → rest ≡ Some left → IsClear left fault → IsCleanLeft left → IsNextOf left next → HoldsOn held next
holds_on held next rest fault (inl none) left some clear is opened = absurd (let both = sym none ∙ some in cc)
holds_on held next rest fault (inr not) left some clear is opened = by_fault held next left fault (subst (λ r. IsNotOpened held r fault) some not) clear is opened
