-- What a call says of files that it refuses, from what a connection over them says.
use Rattle.std.proofs.Common.{◌≡◌, ◌≢◌, ◌∙◌, IfSome, IsTrue, Option, Some, None, inl, inr, refl, sym, subst, true≢false}
use Rattle.sqlite.specs.Effect.{Database, IsDatabase}
use Rattle.sqlite.specs.Files.{HoldsDatabase, IsCleanLeft}
use Rattle.sqlite.specs.State.{State, Opens}
use Rattle.sqlite.specs.Tree.{Trees}
use Rattle.sqlite.specs.declared.file.Leftover.{Leftover}
use Rattle.sqlite.specs.declared.file.Leftover.TheVariants as left
use Rattle.sqlite_disk.specs.declared.Disk.{Ghosts}
use Rattle.sqlite_disk.specs.declared.Files.{Files}
use Rattle.sqlite_store.specs.FileStore.{recovers, view}
use Rattle.sqlite_store.specs.declared.store.FileStore.{FileStore}
use Rattle.sqlite_wal.specs.Recovery.{Image}
use Rattle.fr_base.specs.Book.{opening}
use Rattle.fr_base.specs.Cluster.{ClusterFile}
use Rattle.fr_tables.specs.SchemaNumbers.{AreAsBefore, old_schema_number, our_schema_number}
use Rattle.fr_store.specs.Opened.{HoldCommitted}
use Rattle.fr_store.specs.Opening.{Refuses}
use Rattle.fr_store.specs.Refused.{FindsStill, HoldsStill, IsOther, IsRefusedBy, IsSpared, IsToldBy, IsUnavailable, IsUnopened, Refusing, files_alone, given_back, in_files, makes, makes_closed, migrates, opens}
use Rattle.fr_store.specs.Store.{Forbids, IsRegisterFor}
use Rattle.fr_store.specs.StoreFiles.{IsFound, IsHeld, database_of}
use Rattle.fr_store.specs.declared.fault.StoreFault.{StoreFault}
use Rattle.fr_store.specs.declared.fault.StoreFault.TheVariants.{NotEmpty, NotARegister, WrongSchema, Unavailable}
use Rattle.fr_store.proofs.AgainLemmas.{only_unavailable_files}
use Rattle.fr_store.proofs.BeforeLemmas.{only_unavailable_held}
use Rattle.fr_store.proofs.FileLemmas.{forbidden_opened, may_forbid, refused_opened, refused_unopened, same_database}

-- ---- what is said of a database that files held, and which files are refused as Unavailable alone

abbrev IsOf : Refusing → Image → StoreFault → Type 0
IsOf call held fault = (d : Database) → IsDatabase d → HoldsDatabase held d.trees → call.database d fault

abbrev IsAlone : Refusing → Image → StoreFault → Type 0
IsAlone call held fault = call.takes held → IsOf call held fault → fault ≡ Unavailable

opens_alone : (held : Image) (fault : StoreFault) → IsAlone opens held fault
opens_alone held fault its told = only_unavailable_files held its.0 its.1 fault its.2 told

migrates_alone : (held : Image) (fault : StoreFault) → IsAlone migrates held fault
migrates_alone held fault its told = only_unavailable_held held its.0 its.1 fault its.2 told

makes_alone : (held : Image) (fault : StoreFault) → IsAlone makes held fault
makes_alone held NotEmpty its told = absurd (true≢false (sym (told its.0 its.1 its.2) ∙ its.3))
makes_alone held NotARegister its told = absurd (told its.0 its.1 its.2)
makes_alone held WrongSchema its told = absurd (told its.0 its.1 its.2)
makes_alone held Unavailable its told = refl

module _ {D : Type 0} {g : Ghosts D} where
  -- ---- a store that is left

  -- one of more databases
  finds_more : (held : Image) (commits : Trees → Type 0) (left : Leftover D g) → FindsStill held (λ db. ⊥) left → FindsStill held commits left
  finds_more held commits (left.Files files) h = tt
  finds_more held commits (left.Unopened files) h = tt
  finds_more held commits (left.Store it) h = λ db may. elim (h db may) [ inl found ↦ inl found | inr none ↦ absurd none ]

  -- ---- files in which no database was opened

  unopened_tells : (call : Refusing) (held : Image) (fault : StoreFault) (left : Leftover D g) → IsAlone call held fault → ((d : Database) → call.database d Unavailable)
      → call.files held fault → ((db : Trees) → HoldsDatabase held db → fault ≡ Unavailable) → (call.spares fault left → HoldsStill held left) → FindsStill held call.commits left → IsToldBy call held fault left
  unopened_tells call held fault left alone any cause told stays finds =
      let why = λ (d : Database) (is : IsDatabase d) (there : HoldsDatabase held d.trees). subst (call.database d) (sym (told d.trees there)) (any d) in
      record { told = why; cause = cause; known = λ its. alone its why; stays = stays; finds = finds }

  unopened : (call : Refusing) (held : Image) (fault : StoreFault) (rest : Option (Leftover D g)) → IsAlone call held fault → ((d : Database) → call.database d Unavailable)
      → (((db : Trees) → HoldsDatabase held db → fault ≡ Unavailable) → call.files held fault) → call.tells fault → IsUnopened call.spares held fault rest
      → IsRefusedBy call IsUnavailable held fault rest
  unopened call held fault None alone any cause tells h = record { tells = tells; left = tt; lost = h.lost }
  unopened call held fault (Some left) alone any cause tells h = record {
    tells = tells;
    left = λ clean. unopened_tells call held fault left alone any (cause (h.told clean)) (h.told clean) (h.stays clean) (finds_more held call.commits left (h.finds clean));
    lost = h.lost;
  }

  pub not_opened : (held : Image) (fault : StoreFault) (rest : Option (Leftover D g)) → IsUnopened IsSpared held fault rest → IsRefusedBy opens IsUnavailable held fault rest
  not_opened held fault rest h =
      unopened opens held fault rest (opens_alone held fault) (λ d. tt) (refused_unopened our_schema_number held fault h.not_made h.not_ours) h.not_made h

  pub not_opened_in_files : (held : Image) (fault : StoreFault) (rest : Option (Leftover D g)) → IsUnopened IsOther held fault rest → IsRefusedBy (in_files opens) IsUnavailable held fault rest
  not_opened_in_files held fault rest h =
      unopened (in_files opens) held fault rest (opens_alone held fault) (λ d. tt) (refused_unopened our_schema_number held fault h.not_made h.not_ours) h.not_made h

  pub not_migrated : (held : Image) (fault : StoreFault) (rest : Option (Leftover D g)) → IsUnopened IsSpared held fault rest → IsRefusedBy migrates IsUnavailable held fault rest
  not_migrated held fault rest h =
      unopened migrates held fault rest (migrates_alone held fault) (λ d. tt) (refused_unopened old_schema_number held fault h.not_made h.not_ours) h.not_made h

  pub not_migrated_in_files : (held : Image) (fault : StoreFault) (rest : Option (Leftover D g)) → IsUnopened IsOther held fault rest → IsRefusedBy (in_files migrates) IsUnavailable held fault rest
  not_migrated_in_files held fault rest h =
      unopened (in_files migrates) held fault rest (migrates_alone held fault) (λ d. tt) (refused_unopened old_schema_number held fault h.not_made h.not_ours) h.not_made h

  -- ---- want of memory, or a fault of the files

  lacking : (call : Refusing) (held : Image) (rest : Option (Leftover D g)) → call.tells Unavailable → ((d : Database) → call.database d Unavailable) → call.files held Unavailable
      → IfSome rest (λ left. IsCleanLeft left → (call.spares Unavailable left → HoldsStill held left) × FindsStill held call.commits left) → IsRefusedBy call IsUnavailable held Unavailable rest
  lacking call held None tells database files leaves = record { tells = tells; left = tt; lost = λ none. refl }
  lacking call held (Some left) tells database files leaves = record {
    tells = tells;
    left = λ clean. record { told = λ d is there. database d; cause = files; known = λ its. refl; stays = (leaves clean).0; finds = (leaves clean).1 };
    lost = λ none. refl;
  }

  -- nothing is left
  pub open_lacks : (held : Image) → IsRefusedBy {D = D} {g = g} opens IsUnavailable held Unavailable None
  open_lacks held = lacking opens held None (λ is. cc) (λ d. tt) tt tt

  pub migrate_lacks : (held : Image) → IsRefusedBy {D = D} {g = g} migrates IsUnavailable held Unavailable None
  migrate_lacks held = lacking migrates held None (λ is. cc) (λ d. tt) tt tt

  pub make_lacks : (held : Image) → IsRefusedBy {D = D} {g = g} makes IsUnavailable held Unavailable None
  make_lacks held = lacking makes held None (inr refl) (λ d. tt) tt tt

  -- no database was opened in which a register was to be made
  pub not_made : (held : Image) (rest : Option (Leftover D g)) → IsUnopened IsSpared held Unavailable rest → IsRefusedBy makes IsUnavailable held Unavailable rest
  not_made held None h = make_lacks held
  not_made held (Some left) h = lacking makes held (Some left) (inr refl) (λ d. tt) tt (λ clean. (h.stays clean, h.finds clean))

  pub not_made_in_files : (held : Image) (files : Option (Files D)) → IsRefusedBy (in_files makes) IsUnavailable held Unavailable (given_back g files)
  not_made_in_files held None = lacking (in_files makes) held None (inr refl) (λ d. tt) tt tt
  not_made_in_files held (Some files) = lacking (in_files makes) held (Some (files_alone g files)) (inr refl) (λ d. tt) tt (λ clean. (λ other. absurd (other refl), tt))

  -- a register that was made, whose files failed to close
  pub not_closed : (f : ClusterFile) (held : Image) (it : FileStore D g) → (IsTrue (view it).is_clean → (db : Trees) → recovers it db → IsRegisterFor f.cluster (opening f) (database_of db))
      → IsRefusedBy (makes_closed f) IsUnavailable held Unavailable (Some (left.Store it))
  not_closed f held it finds =
      lacking (makes_closed f) held (Some (left.Store it)) (inr refl) (λ d. tt) tt (λ clean. (λ other. absurd (other refl), λ db may. inr (finds clean db may)))

  -- one that was not made
  pub not_closed_if_not_made : (f : ClusterFile) (held : Image) (fault : StoreFault) (rest : Option (Leftover D g)) → IsRefusedBy makes IsUnavailable held fault rest
      → IsRefusedBy (makes_closed f) IsUnavailable held fault rest
  not_closed_if_not_made f held fault None h = record { tells = h.tells; left = tt; lost = h.lost }
  not_closed_if_not_made f held fault (Some left) h = record {
    tells = h.tells;
    left = λ clean.
        let said = h.left clean in
        record { told = said.told; cause = said.cause; known = said.known; stays = said.stays; finds = finds_more held (makes_closed f).commits left said.finds };
    lost = h.lost;
  }

  -- what is said of files at a path is said of files that were given
  spared : (fault : StoreFault) (left : Leftover D g) → fault ≢ Unavailable → IsSpared fault left
  spared fault (left.Files files) other = tt
  spared fault (left.Unopened files) other = other
  spared fault (left.Store it) other = other

  handed : (call : Refusing) (held : Image) (fault : StoreFault) (rest : Option (Leftover D g)) → ((left : Leftover D g) → fault ≢ Unavailable → call.spares fault left)
      → IsRefusedBy call IsUnavailable held fault rest → IsRefusedBy (in_files call) IsUnavailable held fault rest
  handed call held fault None spares h = record { tells = h.tells; left = tt; lost = h.lost }
  handed call held fault (Some left) spares h = record {
    tells = h.tells;
    left = λ clean. let said = h.left clean in record { told = said.told; cause = said.cause; known = said.known; stays = λ other. said.stays (spares left other); finds = said.finds };
    lost = h.lost;
  }

  pub open_handed : (held : Image) (fault : StoreFault) (rest : Option (Leftover D g)) → IsRefusedBy opens IsUnavailable held fault rest → IsRefusedBy (in_files opens) IsUnavailable held fault rest
  open_handed held fault rest h = handed opens held fault rest (spared fault) h

  pub migrate_handed : (held : Image) (fault : StoreFault) (rest : Option (Leftover D g)) → IsRefusedBy migrates IsUnavailable held fault rest
      → IsRefusedBy (in_files migrates) IsUnavailable held fault rest
  migrate_handed held fault rest h = handed migrates held fault rest (spared fault) h

  pub make_handed : (held : Image) (fault : StoreFault) (rest : Option (Leftover D g)) → IsRefusedBy makes IsUnavailable held fault rest → IsRefusedBy (in_files makes) IsUnavailable held fault rest
  make_handed held fault rest h = handed makes held fault rest (spared fault) h

  -- ---- files that a connection opened, left as they were, and closed

  closed_tells : (call : Refusing) (held : Image) (fault : StoreFault) (files : Files D) (before after : State) → IsAlone call held fault
      → call.database before.now fault → call.files held fault → Opens before → IsFound held before.now → AreAsBefore before after → HoldCommitted g files after
      → IsToldBy call held fault (files_alone g files)
  closed_tells call held fault files before after alone why cause opens found same_as closed =
      let same = λ (d : Database) (is : IsDatabase d) (there : HoldsDatabase held d.trees). same_database before.now d found.sound is (found.only d.trees there) in
      let told = λ (d : Database) (is : IsDatabase d) (there : HoldsDatabase held d.trees). subst (λ e. call.database e fault) (same d is there) why in
      let kept : after.committed ≡ before.now = (same_as closed.is_open).2 ∙ sym opens.clean in
      record {
        told = told;
        cause = cause;
        known = λ its. alone its told;
        stays = λ spared. record {
          untouched = λ d is there. subst (IsHeld _) (kept ∙ same d is there) closed.held;
          survives = λ image may d is there. subst (IsHeld image) (kept ∙ same d is there) (closed.left image may);
        };
        finds = tt;
      }

  pub open_tells : (held : Image) (fault : StoreFault) (files : Files D) (before after : State) → Refuses our_schema_number before.now fault
      → Opens before → IsFound held before.now → AreAsBefore before after → HoldCommitted g files after → IsToldBy opens held fault (files_alone g files)
  open_tells held fault files before after why opened found same_as closed =
      closed_tells opens held fault files before after (opens_alone held fault) why (refused_opened our_schema_number held before.now fault found why) opened found same_as closed

  pub migrate_tells : (held : Image) (fault : StoreFault) (files : Files D) (before after : State) → Refuses old_schema_number before.now fault
      → Opens before → IsFound held before.now → AreAsBefore before after → HoldCommitted g files after → IsToldBy migrates held fault (files_alone g files)
  migrate_tells held fault files before after why opened found same_as closed =
      closed_tells migrates held fault files before after (migrates_alone held fault) why (refused_opened old_schema_number held before.now fault found why) opened found same_as closed

  pub make_tells : (held : Image) (fault : StoreFault) (files : Files D) (before after : State) → Forbids before.now.schema fault
      → Opens before → IsFound held before.now → AreAsBefore before after → HoldCommitted g files after → IsToldBy makes held fault (files_alone g files)
  make_tells held fault files before after why opened found same_as closed =
      closed_tells makes held fault files before after (makes_alone held fault) (may_forbid before.now.schema fault why) (forbidden_opened held before.now fault found why) opened found same_as closed

  -- all files are left
  pub all_left : (call : Refusing) (held : Image) (fault : StoreFault) (left : Leftover D g) → call.tells fault → (IsCleanLeft left → IsToldBy call held fault left)
      → IsRefusedBy call IsUnavailable held fault (Some left)
  all_left call held fault left tells told = record { tells = tells; left = told; lost = λ none. absurd (let no = none in cc) }

-- what is made in is refused for no other fault
pub make_faults : (db : Database) (fault : StoreFault) → Forbids db.schema fault → makes.tells fault
make_faults db NotEmpty h = inl refl
make_faults db NotARegister h = absurd h
make_faults db WrongSchema h = absurd h
make_faults db Unavailable h = inr refl
