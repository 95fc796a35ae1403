-- What is opened of files, and what is left of them.
use Rattle.std.proofs.Common.{◌∙◌, inl, inr, List, [], ◌∷◌, IsTrue, subst, sym}
use Rattle.std.proofs.Math.Logic.{∥∥₁_map}
use Rattle.sqlite.specs.State.{State}
use Rattle.sqlite.specs.Tree.{Trees}
use Rattle.sqlite_disk.specs.declared.Disk.{Ghosts}
use Rattle.sqlite_disk.specs.declared.Files.{Files}
use Rattle.sqlite_wal.specs.Reads.{AreClean}
use Rattle.sqlite_wal.specs.Recovery.{Image}
use Rattle.fr_base.specs.Book.{Book, file_of}
use Rattle.fr_base.specs.Cluster.{Cluster, ClusterFile}
use Rattle.fr_world.specs.Held.{Leaving, Standing}
use Rattle.fr_office.specs.Crashed.{EachBook, IsKept, IsNear, IsOrNext, WasLacking}
use Rattle.fr_office.proofs.CrashedLaws.{is_found, were_kept}
use Rattle.fr_store.specs.Crashes.{IsForOne}
use Rattle.fr_store.specs.Opened.{IsOpenedIn}
use Rattle.fr_store.specs.Store.{IsRegisterFor}
use Rattle.fr_store.specs.StoreFiles.{HoldsBook, IsHeld, database_of}
use Rattle.fr_store.specs.Stored.{StandsStored}
use Rattle.fr_store.proofs.AgainLemmas as again
use Rattle.fr_store.proofs.StoredLaws.{holds_book}
use Rattle.fr_desks.specs.FileDesk.{Held, IsLeftBy, LeavesBook}
use Rattle.fr_desks.specs.Laws.{CrashIsFound, StoppedIsFound}

-- files that hold what was committed hold the book
pub holds_committed : (found : ClusterFile) (s : State) (c : Cluster) (b : Book) (image : Image) → IsTrue s.is_open → IsHeld image s.committed → StandsStored found s c b → HoldsBook c b image
holds_committed found s c b image up held stood = holds_book found s c b up stood image (λ k a is. again.holds_book image s.committed k a is held)

-- a register that was opened in files that held a book stands for it
pub found_held : (held : Image) (found : ClusterFile) (s : State) (c : Cluster) (b : Book) → IsOpenedIn held found s → Held held c b → StandsStored found s c b
found_held held found s c b opened (inl holds) =
    let is = opened.opened (file_of c b) holds.trees holds.register in
    let again = opened.again c b holds in
    record { config = again.0; rows = λ _. (again.1, is.1 ∙ sym is.0) }
found_held held found s c b opened (inr left) =
    let again = opened.left c b left.0 left.1 left.2 in
    record { config = again.0; rows = λ _. (again.1, opened.committed) }

-- what was left is what is found
pub left_holds : {D : Type 0} (g : Ghosts D) (files : Files D) (held : Image) (c : Cluster) (b : Book) → AreClean g files.log files.db → LeavesBook g files c b → IsLeftBy g files held → HoldsBook c b held
left_holds g files held c b are leaves (inl same) = subst (HoldsBook c b) (sym same) (leaves are).0
left_holds g files held c b are leaves (inr crash) = (leaves are).1 held crash

-- of what may be left it is one
pub one_of : (c : Cluster) (P : Book → Type 0) (books : List Book) (db : Trees) → EachBook P books → IsForOne c books db → (x : Book) × P x × IsRegisterFor c x (database_of db)
one_of c P [] db each is = absurd is
one_of c P (b ∷ books) db each (inl this) = (b, each.0, this)
one_of c P (b ∷ books) db each (inr other) = one_of c P books db each.1 other

-- of one that may be left it is that one
pub the_one : (c : Cluster) (b : Book) (db : Trees) → IsForOne c (b ∷ []) db → IsRegisterFor c b (database_of db)
the_one c b db (inl this) = this
the_one c b db (inr none) = absurd none

-- what is opened of files that were given up
pub crash_found : {D Desk Found : Type 0} (g : Ghosts D) (stands : Desk → Standing) (serves : Desk → Type 0) (leaves : Desk → Leaving) (held : Image) (clean : Found → Type 0)
    (finds : Found → Standing) → ((desk : Desk) (c : Cluster) (b : Book) → serves desk → stands desk c b → leaves desk c (b ∷ [])) → CrashIsFound g stands serves leaves held clean finds
crash_found {D} {Desk} g stands serves leaves held clean finds settled c b first last asks answers files found stood sound up asked given are crash finds_held is_clean =
    let kept = were_kept stands leaves c b first last asks answers asked stood sound (settled first c b up stood) in
    ∥∥₁_map (given are held crash c kept.books kept.left) (λ one.
    let x = one_of c (IsOrNext c (WasLacking c b asks answers) kept.last) kept.books one.0 kept.each one.2 in
    is_found (finds found c) c b kept.last x.0 asks answers sound kept.run x.1 (finds_held is_clean c x.0 (inr (one.0, one.1, x.2))))

-- what is opened of the files of a desk that was given up
pub stopped_found : {D Desk Found : Type 0} (g : Ghosts D) (stands : Desk → Standing) (leaves : Desk → Leaving) (held : Image)
    (clean : Found → Type 0) (finds : Found → Standing)
    → ((desk : Desk) (c : Cluster) (b : Book) → stands desk c b → IsKept (leaves desk c) c b) → StoppedIsFound g stands leaves held clean finds
stopped_found {D} {Desk} {Found} g stands leaves held clean finds keeps c b desk files found stood given are crash finds_held is_clean =
    let kept = keeps desk c b stood in
    ∥∥₁_map (given are held crash c kept.books kept.left) (λ one.
    let x = one_of c (IsNear c b) kept.books one.0 kept.each one.2 in
    let found_near : (x : Book) × IsNear c b x × finds found c x = (x.0, x.1, finds_held is_clean c x.0 (inr (one.0, one.1, x.2))) in
    found_near)
