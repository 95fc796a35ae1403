-- Tables that stood for a cluster and a book, opened again.
use Rattle.std.proofs.Common.{◌≡◌, ◌∙◌, ℤ, inl, refl, sym, ap, subst}
use Rattle.std.proofs.Math.Logic.{∥∥₁_elim}
use Rattle.sqlite.specs.Effect.{Database, IsDatabase}
use Rattle.sqlite.specs.Files.{HoldsDatabase}
use Rattle.sqlite.specs.Tree.{Trees}
use Rattle.sqlite.specs.State.{State}
use Rattle.sqlite_wal.specs.Recovery.{Image}
use Rattle.fr_base.specs.Cluster.{Cluster, ClusterFile, IsWellFormed}
use Rattle.fr_base.specs.Book.{Book, file_of}
use Rattle.fr_tables.specs.Rows.{RegisterRow}
use Rattle.fr_tables.specs.Schema.{IsOurs, register_schema, layout_of}
use Rattle.fr_tables.proofs.LayoutLemmas.{ours_there}
use Rattle.fr_tables.specs.Tables.{Tables, HasTables, tables_in, AreOrdered}
use Rattle.fr_store.specs.StandsFor.{StandsFor}
use Rattle.fr_store.specs.Reading.{Stands}
use Rattle.fr_store.specs.Store.{TellsOf, IsRegisterOf, IsRegisterFor, FindsAgain}
use Rattle.fr_store.specs.StoreFiles.{IsHeld, HoldsRegister, HoldsBook, database_of}
use Rattle.fr_store.specs.Opening.{Refuses, Explains}
use Rattle.fr_tables.specs.SchemaNumbers.{numbered, our_schema_number, HasNumber}
use Rattle.fr_store.specs.declared.fault.StoreFault.{StoreFault}
use Rattle.fr_store.specs.declared.fault.StoreFault.TheVariants.{NotEmpty, NotARegister, WrongSchema, Unavailable}
use Rattle.fr_tables.proofs.TypedLemmas.{in_order}
use Rattle.fr_store.proofs.SameCluster.{same_file}

-- tables that stand for a book tell of its cluster
tells_of : (t : Tables) (c : Cluster) (b : Book) → StandsFor t c b → TellsOf (file_of c b) t
tells_of t c b h = record { register = h.heads.number; cluster2 = h.heads.params; suppliers = h.rows.suppliers }

pub still_stands : (old new : State) (c : Cluster) (b : Book) → new.now ≡ old.now → Stands old c b → Stands new c b
still_stands old new c b same h =
    record { has = subst HasTables (sym same) h.has; for = subst (λ (d : Database). StandsFor (tables_in d.trees) c b) (sym same) h.for }

pub found_again : (old new : State) (found : ClusterFile) → new.now ≡ old.now → IsWellFormed found → (AreOrdered old.now.trees → IsRegisterOf found new.now) → FindsAgain old new found
found_again old new found same good is c b stood =
    let stands = still_stands old new c b same stood in
    (same_file found c b (tables_in new.now.trees) good (is (in_order old.now stood.has)).tells stands.for, stands)

-- tables that say the number that is wanted are refused for no other reason
pub refused_alone : (wanted : ℤ) (db : Database) (e : StoreFault) → HasNumber db wanted → Refuses wanted db e → e ≡ Unavailable
refused_alone wanted db NotEmpty is h = absurd h
refused_alone wanted db NotARegister is h = absurd (h.1 wanted is)
refused_alone wanted db WrongSchema is h =
    let its = h.3 is.has in
    let same : numbered h.0 ≡ numbered wanted = cc (sym its.number ∙ is.number) in
    absurd (h.1 (ap (λ (r : RegisterRow). r.schema) same))
refused_alone wanted db Unavailable is h = refl

-- nor are files that hold them
pub refused_alone_files : (wanted : ℤ) (image : Image) (db : Database) (e : StoreFault) → IsHeld image db → HasNumber db wanted → ((d : Database) → IsDatabase d → HoldsDatabase image d.trees → Refuses wanted d e) → e ≡ Unavailable
refused_alone_files wanted image db Unavailable held is told = refl
refused_alone_files wanted image db NotEmpty held is told = absurd (∥∥₁_elim held.holds (hlevel) (λ there. told db held.sound there))
refused_alone_files wanted image db NotARegister held is told = absurd (∥∥₁_elim held.holds (hlevel) (λ there. (told db held.sound there).1 wanted is))
refused_alone_files wanted image db WrongSchema held is told =
    absurd (∥∥₁_elim held.holds (hlevel) (λ there. let same = refused_alone wanted db WrongSchema is (told db held.sound there) in cc))

-- so with a register of this schema
pub only_unavailable : (c : ClusterFile) (db : Database) (e : StoreFault) → IsRegisterOf c db → Explains db e → e ≡ Unavailable
only_unavailable c db e is h = refused_alone our_schema_number db e (record { has = inl is.has; number = is.tells.register }) h

pub only_unavailable_files : (image : Image) (c : ClusterFile) (db : Trees) (e : StoreFault) → HoldsRegister c image db
    → ((d : Database) → IsDatabase d → HoldsDatabase image d.trees → Explains d e) → e ≡ Unavailable
only_unavailable_files image c db e h told = refused_alone_files our_schema_number image (database_of db) e h.held (record { has = inl h.is.has; number = h.is.tells.register }) told

-- what files hold, as a connection sees it
pub held_stands : (image : Image) (s : State) (c : Cluster) (b : Book) (h : HoldsBook c b image) → s.now ≡ database_of h.trees → Stands s c b
held_stands image s c b h is =
    record { has = subst HasTables (sym is) h.register.is.has; for = subst (λ (d : Database). StandsFor (tables_in d.trees) c b) (sym is) h.for }

-- what was found of it, whose schema is this one's
pub left_stands : (s : State) (c : Cluster) (b : Book) (db : Trees) → IsRegisterFor c b (database_of db) → IsDatabase s.now → IsOurs s.now.schema → s.now.trees ≡ db → Stands s c b
left_stands s c b db is sound ours trees =
    let schema : s.now.schema ≡ register_schema (layout_of s.now.trees) = ours.is ∙ ap register_schema (sym (ours_there s.now sound ours)) in
    let same : s.now ≡ database_of db = (λ i. let d : Database = record { schema = schema i; trees = s.now.trees } in d) ∙ ap database_of trees in
    record { has = subst HasTables (sym same) is.has; for = subst (λ (d : Database). StandsFor (tables_in d.trees) c b) (sym same) is.for }

-- a register in files
pub holds_register : (image : Image) (db : Database) (f : ClusterFile) → IsRegisterOf f db → IsHeld image db → HoldsRegister f image db.trees
holds_register image db f is held =
    let same : database_of db.trees ≡ db = λ i. record { schema = sym is.has.schema i; trees = db.trees } in
    record { held = subst (IsHeld image) (sym same) held; is = subst (IsRegisterOf f) (sym same) is }

-- one whose tables stand for a book, in files
pub holds_book : (image : Image) (db : Database) (c : Cluster) (b : Book) → IsRegisterFor c b db → IsHeld image db → HoldsBook c b image
holds_book image db c b is held =
    let of : IsRegisterOf (file_of c b) db = record { has = is.has; tells = tells_of (tables_in db.trees) c b is.for } in
    record { trees = db.trees; register = holds_register image db (file_of c b) of held; for = is.for }
