-- What is left of files in which no database was opened, from what the kit says of it.
use Rattle.std.proofs.Common.{◌≡◌, ◌≢◌, ◌∙◌, Bool, IfSome, IsTrue, List, None, Option, Some, ℕ, [], ◌∷◌, ap, if◌then◌else◌, inl, inr, refl, sym, subst}
use Rattle.sqlite.specs.Files.{AreFoundIn, FailsToOpenFiles, HoldsDatabase, IsCleanLeft, LeavesFiles, image_of}
use Rattle.sqlite.specs.Tree.{Trees}
use Rattle.sqlite.specs.declared.error.Error.{Error}
use Rattle.sqlite.specs.declared.error.Error.TheVariants.{SqliteFailure}
use Rattle.sqlite.specs.declared.error.ErrorCode.TheVariants.{NotADatabase}
use Rattle.sqlite.specs.declared.file.Leftover.{Leftover}
use Rattle.sqlite.specs.declared.file.Leftover.TheVariants as left
use Rattle.sqlite_disk.specs.Events.{Event, replay, settled}
use Rattle.sqlite_disk.specs.History.{MayLeave}
use Rattle.sqlite_disk.specs.Modelled.{start_of}
use Rattle.sqlite_disk.specs.declared.Disk.{Ghosts}
use Rattle.sqlite_disk.specs.declared.Files.{Files}
use Rattle.sqlite_disk.specs.declared.modelled.Modelled.{Modelled}
use Rattle.sqlite_disk.specs.declared.calls.Calls as calls
use Rattle.sqlite_disk.specs.declared.start.Start as start
use Rattle.sqlite_store.specs.FileStore.{recovers, view}
use Rattle.sqlite_store.specs.declared.store.FileStore.{FileStore}
use Rattle.sqlite_wal.specs.Files.{outcomes, seen_image}
use Rattle.sqlite_wal.specs.Recovery.{Image}
use Rattle.fr_store.specs.Refused.{FindsStill, HoldsStill, IsOther, IsSpared, IsUnopened, files_alone}
use Rattle.fr_store.specs.StoreFiles.{AreFoundAlone}
use Rattle.fr_store.specs.declared.fault.StoreFault.{StoreFault}
use Rattle.fr_store.specs.declared.fault.StoreFault.TheVariants.{NotARegister, NotEmpty, Unavailable, WrongSchema}
use Rattle.fr_store.proofs.FileLemmas.{holds_none}

-- this is the log or the database file, and nothing was done to it but that it was settled
abbrev pub IsSettled : {C S : Type 0} {g : calls.Ghosts C} {first : start.Ghosts S} → Bool → Modelled C S g first → Type 0
IsSettled {C} {S} {g} is_log f = (f.is_log ≡ is_log) × (g.history f.calls ≡ settled f.key ∷ [])

-- so a crash leaves what it held
pub settled_left : {C S : Type 0} {g : calls.Ghosts C} (first : start.Ghosts S) (f : Modelled C S g first) (is_log : Bool) → IsSettled is_log f → (c : List ℕ)
    → (let m = replay (start_of first f) (g.history f.calls) in MayLeave first.is_mixing m.seen m.synced m.steps c) → c ≡ (if is_log then first.log else first.db)
settled_left first f is_log is c may =
    let now = subst (λ (h : List Event). let m = replay (start_of first f) h in MayLeave first.is_mixing m.seen m.synced m.steps c) is.1 may in
    let same : c ≡ start_of first f = elim now [ inl seen ↦ seen | inr synced ↦ synced ] in
    same ∙ ap (λ b. if b then first.log else first.db) is.0

same_image : (held image : Image) → (image.log ≡ held.log) × (image.db ≡ held.db) → image ≡ held
same_image held image same i = record { log = same.0 i; db = same.1 i }

module _ {D : Type 0} {g : Ghosts D} where
  -- files to which nothing was written
  unwritten : (held : Image) (files now : Files D) → ((file : D) → g.may_leave file (g.seen file))
      → ((image : Image) → outcomes g files.log files.db image → (image.log ≡ held.log) × (image.db ≡ held.db))
      → ((image : Image) → outcomes g now.log now.db image → outcomes g files.log files.db image) → HoldsStill held (files_alone g now)
  unwritten held files now stays only keeps =
      let is = λ (image : Image) (may : outcomes g now.log now.db image). sym (same_image held image (only image (keeps image may))) in
      record {
        untouched = λ d sound there. record {
          holds = ∣ subst (λ image. HoldsDatabase image d.trees) (is (seen_image g now.log now.db) (stays now.log, stays now.db)) there ∣₁;
          sound = sound;
        };
        survives = λ image may d sound there. record { holds = ∣ subst (λ image. HoldsDatabase image d.trees) (is image may) there ∣₁; sound = sound };
      }

  -- files that held none
  held_none : (held : Image) (fault : StoreFault) (rest : Leftover D g) → ((db : Trees) → HoldsDatabase held db → fault ≡ Unavailable) → fault ≢ Unavailable → HoldsStill held rest
  held_none held fault rest told other = record {
    untouched = λ d sound there. absurd (other (told d.trees there));
    survives = λ image may d sound there. absurd (other (told d.trees there));
  }

  pub unopened_files : (held : Image) (fault : StoreFault) (files : Files D) → (IsCleanLeft (files_alone g files) → (db : Trees) → HoldsDatabase held db → fault ≡ Unavailable) → fault ≢ NotEmpty → fault ≢ WrongSchema
      → IsUnopened IsOther held fault (Some (files_alone g files))
  unopened_files held fault files told made ours = record {
    told = told;
    stays = λ clean other. held_none held fault (files_alone g files) (told clean) other;
    finds = λ clean. tt;
    not_made = made;
    not_ours = ours;
    lost = λ none. absurd (let no = none in cc);
  }

  -- a store in which an open finds what it finds in the files
  pub left_store : (held : Image) (it : FileStore D g) → (IsTrue (view it).is_clean → (db : Trees) → recovers it db → AreFoundAlone held db) → IsUnopened IsSpared held Unavailable (Some (left.Store it))
  left_store held it finds = record {
    told = λ clean db there. refl;
    stays = λ clean other. absurd (other refl);
    finds = λ clean db may. inl (finds clean db may);
    not_made = λ other. cc;
    not_ours = λ other. cc;
    lost = λ none. refl;
  }

  left_still : (held : Image) (files : Files D) (rest : Leftover D g) (fault : StoreFault) → ((file : D) → g.may_leave file (g.seen file))
      → ((image : Image) → outcomes g files.log files.db image → (image.log ≡ held.log) × (image.db ≡ held.db))
      → ((db : Trees) → HoldsDatabase held db → fault ≡ Unavailable) → LeavesFiles files rest → IsSpared fault rest → HoldsStill held rest
  left_still held files (left.Files now) fault stays only told leaves spared = unwritten held files now stays only leaves
  left_still held files (left.Unopened now) fault stays only told leaves other = held_none held fault (left.Unopened now) told other
  left_still held files (left.Store now) fault stays only told leaves other = held_none held fault (left.Store now) told other

  left_finds : (held : Image) (files : Files D) (rest : Leftover D g) → image_of g files ≡ held → LeavesFiles files rest → FindsStill held (λ db. ⊥) rest
  left_finds held files (left.Files now) same leaves = tt
  left_finds held files (left.Unopened now) same leaves = tt
  left_finds held files (left.Store now) same leaves = λ db may. inl (record {
    recovered = subst (λ image. AreFoundIn image db) same (leaves db may).0;
    only = λ trees there. (leaves db may).1 trees (subst (λ image. HoldsDatabase image trees) (sym same) there);
  })

  -- what the kit leaves of files in which it opened no database, of a log and a database file like this
  abbrev pub IsLeftOf : (D → Type 0) → (D → Type 0) → Error → Leftover D g → Type 0
  IsLeftOf IsLog IsDb e rest = (files : Files D) × IsLog files.log × IsDb files.db × (IsCleanLeft rest → FailsToOpenFiles files rest e × LeavesFiles files rest)

  -- of which a crash leaves what they held
  module _ (held : Image) (IsLog IsDb : D → Type 0) (stays : (file : D) → g.may_leave file (g.seen file))
      (only : (files : Files D) → IsLog files.log → IsDb files.db → (image : Image) → outcomes g files.log files.db image → (image.log ≡ held.log) × (image.db ≡ held.db)) where
    is_held : (rest : Leftover D g) (e : Error) → (it : IsLeftOf IsLog IsDb e rest) → image_of g it.0 ≡ held
    is_held rest e it = let files = it.0 in same_image held (image_of g files) (only files it.1 it.2 (image_of g files) (stays files.log, stays files.db))

    no_database : (rest : Leftover D g) (e : Error) → e ≡ SqliteFailure NotADatabase → IsLeftOf IsLog IsDb e rest → IsCleanLeft rest → (db : Trees) → HoldsDatabase held db → ⊥
    no_database rest e is it clean db there =
        holds_none it.0 rest e is (it.3 clean).0 db (subst (λ image. HoldsDatabase image db) (sym (is_held rest e it)) there)

    pub left_no_database : (rest : Option (Leftover D g)) (e : Error) → e ≡ SqliteFailure NotADatabase → IfSome rest (IsLeftOf IsLog IsDb e) → rest ≢ None → IsUnopened IsSpared held NotARegister rest
    left_no_database None e is it some = absurd (some refl)
    left_no_database (Some rest) e is it some =
        let told = λ (clean : IsCleanLeft rest) (db : Trees) (there : HoldsDatabase held db). absurd (no_database rest e is it clean db there) in
        record {
          told = told;
          stays = λ clean spared. left_still held it.0 rest NotARegister stays (only it.0 it.1 it.2) (told clean) (it.3 clean).1 spared;
          finds = λ clean. left_finds held it.0 rest (is_held rest e it) (it.3 clean).1;
          not_made = λ other. cc;
          not_ours = λ other. cc;
          lost = λ none. absurd (let no = none in cc);
        }

    pub left_unavailable : (rest : Option (Leftover D g)) (e : Error) → IfSome rest (IsLeftOf IsLog IsDb e) → IsUnopened IsSpared held Unavailable rest
    left_unavailable None e it = record { told = tt; stays = tt; finds = tt; not_made = λ other. cc; not_ours = λ other. cc; lost = λ none. refl }
    left_unavailable (Some rest) e it = record {
      told = λ clean db there. refl;
      stays = λ clean spared. left_still held it.0 rest Unavailable stays (only it.0 it.1 it.2) (λ db there. refl) (it.3 clean).1 spared;
      finds = λ clean. left_finds held it.0 rest (is_held rest e it) (it.3 clean).1;
      not_made = λ other. cc;
      not_ours = λ other. cc;
      lost = λ none. refl;
    }
