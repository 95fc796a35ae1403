-- What an open finds in files that hold a database.
use Rattle.std.proofs.Common.{◌≡◌, ◌≢◌, ◌∙◌, inl, inr, ℤ, IsTrue, refl, sym, subst}
use Rattle.std.proofs.Math.Logic.{∥∥₁_elim}
use Rattle.sqlite_disk.specs.declared.Disk.{Ghosts}
use Rattle.sqlite_disk.specs.declared.Files.{Files}
use Rattle.sqlite_wal.specs.Reads.{AreClean}
use Rattle.sqlite_pool.specs.Pool.{state, files}
use Rattle.sqlite_trees.specs.Objects.{catalog_tree}
use Rattle.sqlite_trees.specs.Props.{Trees-set}
use Rattle.sqlite_trees.specs.declared.error.StoreError.{StoreError}
use Rattle.sqlite_trees.specs.declared.error.StoreError.TheVariants as cause
use Rattle.sqlite_catalog.proofs.ReadLemmas.{lists_once}
use Rattle.sqlite_catalog.specs.Listing.{IsSound}
use Rattle.sqlite_wal.specs.Recovery.{Image}
use Rattle.sqlite.specs.Tree.{Trees}
use Rattle.sqlite.specs.Effect.{Database, IsDatabase}
use Rattle.sqlite.specs.Closing.{files_left}
use Rattle.sqlite.specs.Files.{AreFoundIn, HoldsDatabase, image_of, FailsToOpenFiles, IsCleanLeft}
use Rattle.sqlite.specs.State.{State, IsLive, store_error}
use Rattle.sqlite.specs.declared.file.Leftover.{Leftover}
use Rattle.sqlite.specs.declared.file.Leftover.TheVariants as left
use Rattle.sqlite.specs.declared.error.Error.{Error}
use Rattle.sqlite.specs.declared.error.Error.TheVariants.{SqliteFailure}
use Rattle.sqlite.specs.declared.error.ErrorCode.TheVariants.{NotADatabase}
use Rattle.sqlite.specs.Schema.{Schema}
use Rattle.fr_store.specs.Opening.{Refuses, RefusesFiles, ForbidsFiles}
use Rattle.fr_store.specs.Store.{Forbids, MayForbid}
use Rattle.fr_store.specs.StoreFiles.{IsHeld, IsFound}
use Rattle.fr_store.specs.declared.fault.StoreFault.{StoreFault}
use Rattle.fr_store.specs.declared.fault.StoreFault.TheVariants.{NotEmpty, NotARegister, WrongSchema, Unavailable}

-- the trees list one schema, so a database with these trees has it
pub same_database : (a b : Database) → IsDatabase a → IsDatabase b → a.trees ≡ b.trees → a ≡ b
same_database a b first second trees =
    let here : IsSound a.schema b.trees = subst (IsSound a.schema) trees first in
    let schema : a.schema ≡ b.schema = lists_once (b.trees catalog_tree) a.schema b.schema here.lists second.lists in
    λ i. record { schema = schema i; trees = trees i }

-- the files hold no other trees than those that are found
found_trees : (image : Image) (found : Trees) (db : Database) → ((db : Trees) → HoldsDatabase image db → found ≡ db) → IsHeld image db → found ≡ db.trees
found_trees image found db holds held = ∥∥₁_elim held.holds (Trees-set _ _) (holds db.trees)

-- so a database that was found is the one that they hold
pub found_database : (image : Image) (found db : Database) → IsDatabase found → ((t : Trees) → HoldsDatabase image t → found.trees ≡ t) → IsHeld image db → found ≡ db
found_database image found db sound holds held = same_database found db sound held.sound (found_trees image found.trees db holds held)

-- the same database is held
pub held_as : (image : Image) (a b : Database) → a ≡ b → IsHeld image a → IsHeld image b
held_as image a b same held = subst (IsHeld image) same held

-- what is told of a database is told of the files that hold it
pub may_forbid : (schema : Schema) (fault : StoreFault) → Forbids schema fault → MayForbid schema fault
may_forbid schema NotEmpty h = h
may_forbid schema NotARegister h = h
may_forbid schema WrongSchema h = h
may_forbid schema Unavailable h = tt

-- files that were not opened are refused for nothing that was found there
pub refused_unopened : (wanted : ℤ) (image : Image) (fault : StoreFault) → fault ≢ NotEmpty → fault ≢ WrongSchema → ((db : Trees) → HoldsDatabase image db → fault ≡ Unavailable) → RefusesFiles wanted image fault
refused_unopened wanted image NotEmpty made ours told = absurd (made refl)
refused_unopened wanted image NotARegister made ours told = inl (λ held. let is = told held.0 held.1 in cc)
refused_unopened wanted image WrongSchema made ours told = absurd (ours refl)
refused_unopened wanted image Unavailable made ours told = tt

-- and others for that alone
pub refused_opened : (wanted : ℤ) (image : Image) (db : Database) (fault : StoreFault) → IsFound image db → Refuses wanted db fault → RefusesFiles wanted image fault
refused_opened wanted image db NotEmpty found h = absurd h
refused_opened wanted image db NotARegister found h = inr (db, found, h)
refused_opened wanted image db WrongSchema found h = (db, found, h)
refused_opened wanted image db Unavailable found h = tt

-- so where a register was to be made
pub forbidden_opened : (image : Image) (db : Database) (fault : StoreFault) → IsFound image db → Forbids db.schema fault → ForbidsFiles image fault
forbidden_opened image db NotEmpty found h = (db, found, h)
forbidden_opened image db NotARegister found h = absurd h
forbidden_opened image db WrongSchema found h = absurd h
forbidden_opened image db Unavailable found h = tt

-- what was committed, as it was found
pub found_opened : (image : Image) (s : State) → IsTrue s.is_open → IsLive s → (trees : Trees) → s.now.trees ≡ trees → AreFoundIn image trees → ((db : Trees) → HoldsDatabase image db → trees ≡ db) → IsFound image s.now
found_opened image s up live trees same reads holds = record { recovered = subst (AreFoundIn image) (sym same) reads; sound = (live up).0; only = λ db held. same ∙ holds db held }

no_such_cause : (kind : StoreError) (e : Error) → e ≡ SqliteFailure NotADatabase → e ≡ store_error kind → ⊥
no_such_cause cause.OutOfMemory e is h = absurd (let k = sym is ∙ h in cc)
no_such_cause cause.Io e is h = absurd (let k = sym is ∙ h in cc)
no_such_cause cause.Corrupt e is h = absurd (let k = sym is ∙ h in cc)
no_such_cause cause.Full e is h = absurd (let k = sym is ∙ h in cc)
no_such_cause cause.Broken e is h = absurd (let k = sym is ∙ h in cc)
no_such_cause cause.Unstorable e is h = absurd (let k = sym is ∙ h in cc)

module _ {D : Type 0} {g : Ghosts D} where
  -- files that hold a database are not told to hold none
  pub holds_none : (files : Files D) (rest : Leftover D g) (e : Error) → e ≡ SqliteFailure NotADatabase → FailsToOpenFiles files rest e → (db : Trees) → HoldsDatabase (image_of g files) db → ⊥
  holds_none files rest e is (inl h) db held = absurd (let k = sym is ∙ h in cc)
  holds_none files rest e is (inr (inl h)) db held = h.1 (inl (db, held))
  holds_none files rest e is (inr (inr (inl h))) db held = no_such_cause _ e is h.0
  holds_none files rest e is (inr (inr (inr h))) db held = absurd (let k = sym is ∙ h.0 in cc)

  -- what is left is clean where its files are
  pub clean_left : (rest : Leftover D g) (log db : D) → (log, db) ≡ files_left rest → AreClean g log db → IsCleanLeft rest
  unfolding state files
  clean_left (left.Files both) log db same clean = subst (λ (p : D × D). AreClean g p.0 p.1) same clean
  clean_left (left.Unopened both) log db same clean = subst (λ (p : D × D). AreClean g p.0 p.1) same clean
  clean_left (left.Store it) log db same clean = subst (λ (p : D × D). AreClean g p.0 p.1) same clean
