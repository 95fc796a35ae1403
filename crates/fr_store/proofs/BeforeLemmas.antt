-- What a migration makes of a register of the schema before.
use Rattle.std.proofs.Common.{◌≡◌, ◌∙◌, pos, List, [], ◌∷◌, map, filter, inl, inr, arith, Result, Ok, Err, OnOk, OnErr, IfErr, IsTrue, refl, sym, ap, subst}
use Rattle.sqlite.specs.Order.{Row}
use Rattle.sqlite.specs.Effect.{Database, IsDatabase}
use Rattle.sqlite.specs.Files.{HoldsDatabase}
use Rattle.sqlite.specs.Tree.{Trees}
use Rattle.sqlite.specs.State.{State, HasCleanDisk, KeepsCommit, IsUnchanged, Survives}
use Rattle.sqlite.proofs.Callers.{one_permutation}
use Rattle.sqlite.proofs.StateLemmas.{survives_then}
use Rattle.sqlite_wal.specs.Recovery.{Image}
use Rattle.fr_base.specs.Cluster.{Cluster}
use Rattle.fr_base.specs.Book.{Book}
use Rattle.fr_base.specs.declared.key.Key.{Key}
use Rattle.fr_base.specs.declared.params.RawParams.{RawParams}
use Rattle.fr_tables.specs.Rows.{RegisterRow, ClusterRow}
use Rattle.fr_tables.specs.Tables.{Tables, HasTables, HasOldTables, HasSomeTables, AreOrderedBefore, tables_in}
use Rattle.fr_tables.specs.Schema.{IsOld}
use Rattle.fr_tables.proofs.TypedLemmas.{has_before}
use Rattle.fr_tables.specs.Changes.{Changes, Stays, AreListed, tables_of}
use Rattle.fr_tables.specs.Statements.{cluster_row, cluster2_row, shows_cluster, every, any_order, with_cluster2, without_cluster, with_number}
use Rattle.fr_tables.specs.SchemaNumbers.{AreAsBefore, HasNumber, numbered, our_schema_number, old_schema_number}
use Rattle.fr_tables.specs.Making.{IsRenewed}
use Rattle.fr_store.specs.Applying.{GoesOn}
use Rattle.fr_store.specs.Before.{StoodFor, StandsBefore, HoldsBookBefore, HoldsOpenable, LeavesMigrated, HasOldIfBefore, database_before, moved}
use Rattle.fr_store.specs.Opening.{AllowsMigration, Refuses}
use Rattle.fr_store.specs.Reading.{Stands}
use Rattle.fr_store.specs.StandsFor.{StandsFor}
use Rattle.fr_store.specs.Store.{IsOpenable, IsRegisterFor}
use Rattle.fr_store.specs.StoreFiles.{IsFound, IsHeld, HoldsBook}
use Rattle.fr_store.specs.declared.fault.StoreFault.{StoreFault}
use Rattle.fr_store.specs.declared.fault.StoreFault.TheVariants.{Unavailable}
use Rattle.fr_store.proofs.AgainLemmas.{holds_book, refused_alone, refused_alone_files}
use Rattle.fr_store.proofs.FileLemmas.{found_database}
use Rattle.fr_store.proofs.InsideLemmas.{asked_inside, both_inside, made_inside}

-- ---- the cluster's row

all_pass : (xs : List ClusterRow) → filter every xs ≡ xs
all_pass [] = refl
all_pass (x ∷ xs) = ap (λ ys. x ∷ ys) (all_pass xs)

-- rows that show the same are the same
same_row : (x r : ClusterRow) → shows_cluster r ∷ [] ≡ shows_cluster x ∷ [] → x ≡ r
same_row x r is =
    let e0 : x.static_slots ≡ r.static_slots = cc in
    let e1 : x.slot_macroticks ≡ r.slot_macroticks = cc in
    let e2 : x.dynamic_macroticks ≡ r.dynamic_macroticks = cc in
    let e3 : x.symbol_macroticks ≡ r.symbol_macroticks = cc in
    let e4 : x.idle_macroticks ≡ r.idle_macroticks = cc in
    let e5 : x.macroticks_per_cycle ≡ r.macroticks_per_cycle = cc in
    let e6 : x.payload_words ≡ r.payload_words = cc in
    let e7 : x.channels ≡ r.channels = cc in
    let e8 : x.integrator ≡ r.integrator = cc in
    λ i. record { static_slots = e0 i; slot_macroticks = e1 i; dynamic_macroticks = e2 i; symbol_macroticks = e3 i; idle_macroticks = e4 i; macroticks_per_cycle = e5 i; payload_words = e6 i; channels = e7 i; integrator = e8 i }

-- what is read of the one row is what it says
row_read : (all : List ClusterRow) (rows : List Row) (x r : ClusterRow) → AreListed shows_cluster every any_order all rows → all ≡ x ∷ [] → rows ≡ shows_cluster r ∷ [] → r ≡ x
row_read all rows x r listed is read =
    let one : listed.found ≡ x ∷ [] = one_permutation x listed.found (rw (all_pass all, is) at listed.same) in
    same_row r x (ap (map shows_cluster) (sym one) ∙ sym listed.shown ∙ read)

-- the row of so many cycles says all that one without them says
wide_row : (p q : RawParams) (k m : Key) → cluster_row q m ≡ cluster_row p k → q.cycles ≡ p.cycles → cluster2_row q m ≡ cluster2_row p k
wide_row p q k m same cycles i = record {
  static_slots = (same i).static_slots;
  slot_macroticks = (same i).slot_macroticks;
  dynamic_macroticks = (same i).dynamic_macroticks;
  symbol_macroticks = (same i).symbol_macroticks;
  idle_macroticks = (same i).idle_macroticks;
  macroticks_per_cycle = (same i).macroticks_per_cycle;
  payload_words = (same i).payload_words;
  channels = (same i).channels;
  integrator = (same i).integrator;
  cycles = pos (cycles i);
}

-- the row that was read, put into its new table and deleted in the old one, is moved
pub moves : (old a b new : State) (p q : RawParams) (k m : Key) (rows : List Row) → AreListed shows_cluster every any_order (tables_of old).cluster rows → tables_of a ≡ tables_of old → rows ≡ shows_cluster (cluster_row q m) ∷ []
    → q.cycles ≡ 64 → Changes (with_cluster2 (cluster2_row q m)) a b → Changes without_cluster b new → (tables_of old).cluster ≡ cluster_row p k ∷ [] → p.cycles ≡ 64 → tables_of new ≡ moved p k (tables_of old)
moves old a b new p q k m rows listed same read many put gone is counted =
    let row : cluster_row q m ≡ cluster_row p k = row_read (tables_of old).cluster rows (cluster_row p k) (cluster_row q m) listed is read in
    let wide = wide_row p q k m row (many ∙ sym counted) in
    gone.now ∙ ap without_cluster (put.now ∙ ap (with_cluster2 (cluster2_row q m)) same) ∙ ap (λ r. without_cluster (with_cluster2 r (tables_of old))) wide

-- ---- all rows

-- the tables of a migrated register
abbrev renewed : RawParams → Key → Tables → Tables
renewed p k t = with_number our_schema_number (moved p k (record t { cluster2 = [] }))

renewed_stands : (t : Tables) (c : Cluster) (b : Book) → StoodFor t c b → StandsFor (renewed c.params c.integrator t) c b
renewed_stands t c b h = record {
  heads = record { number = ap (map (λ (r : RegisterRow). numbered our_schema_number)) h.heads.number; none_before = refl; params = refl };
  rows = record {
    suppliers = h.rows.suppliers;
    nodes = h.rows.nodes;
    imports = h.rows.imports;
    stored = h.rows.stored;
    variants = h.rows.variants;
    grants = h.rows.grants;
    frames = h.rows.frames;
    placements = h.rows.placements;
    signals = h.rows.signals;
    dropped = h.rows.dropped;
    each = h.rows.each;
  };
}

pub migrated : (old a b new : State) (c : Cluster) (k : Book) → StandsBefore old c k → IsRenewed old a → tables_of b ≡ moved c.params c.integrator (tables_of a) → Changes (with_number our_schema_number) b new → Stands new c k
migrated old a b new c k stands made move number = record {
  has = number.has;
  for = subst (λ t. StandsFor t c k) (sym (number.now ∙ ap (with_number our_schema_number) (move ∙ ap (moved c.params c.integrator) made.same))) (renewed_stands (tables_of old) c k stands.for);
}

-- ---- what stays

-- making the new table commits nothing
pub renewed_keeps : (old new : State) → IsRenewed old new → KeepsCommit old new
renewed_keeps old new h = record { was_open = λ up. h.shown.was_open; committed = λ up. h.shown.committed_is }

-- what stays after two statements that follow a query
pub both_stay : (first second : Tables → Tables) (old read put new : State) → IsTrue old.in_transaction → HasTables old.now → IsUnchanged old read
    → Changes first read put → Changes second put new → KeepsCommit old new × GoesOn new
both_stay first second old read put new inside has same step gone =
    let asked = asked_inside old read inside has same in
    let made = made_inside first read put asked.1.inside step in
    both_inside old read new asked (both_inside read put new made (made_inside second put new made.1.inside gone))

-- the number that a migrated register says
pub number_after : (old made moved new : State) → HasNumber old.now old_schema_number → IsRenewed old made → (tables_of moved).register ≡ (tables_of made).register
    → Changes (with_number our_schema_number) moved new → (tables_of new).register ≡ numbered our_schema_number ∷ []
number_after old made moved new number first kept third =
    let before : (tables_of moved).register ≡ numbered old_schema_number ∷ [] = kept ∙ ap (λ (t : Tables). t.register) first.same ∙ number.number in
    ap (λ (t : Tables). t.register) third.now ∙ ap (map (λ (r : RegisterRow). numbered our_schema_number)) before

-- the same tables stand for the same book
pub still_before : (old new : State) (c : Cluster) (b : Book) → new.now ≡ old.now → StandsBefore old c b → StandsBefore new c b
still_before old new c b same h =
    record { has = subst HasOldTables (sym same) h.has; for = subst (λ (d : Database). StoodFor (tables_in d.trees) c b) (sym same) h.for }

-- a call that leaves the tables, or undoes a transaction that there was not, leaves them as before
pub stays_before : (old new : State) → (IsTrue old.is_open → old.now ≡ old.committed) → Stays old new → AreAsBefore old new
stays_before old new settled (inl same) up = (same.0.was_open, same.0.now_is, same.0.committed_is)
stays_before old new settled (inr back) up =
    let there = back.was_open up in
    let undone = back.undone up in
    (there, undone.0 ∙ sym (settled there), undone.1)

pub as_before_then : (a b c : State) → AreAsBefore a b → AreAsBefore b c → AreAsBefore a c
as_before_then a b c h k up =
    let late = k up in
    let first = h late.0 in
    (first.0, late.1 ∙ first.1, late.2 ∙ first.2)

-- after a call that leaves the tables, and one that sees that the connection is open
pub same_after : (old mid late : State) → AreAsBefore old mid → IsUnchanged mid late → late.now ≡ old.now
same_after old mid late first second = second.0.now_is ∙ (first second.0.was_open).1

pub on_error : {X E P : Type 0} (r : Result X E) → P → OnErr r P
on_error (Ok x) h = tt
on_error (Err e) h = h

pub on_ok : {X E P : Type 0} (r : Result X E) → P → OnOk r P
on_ok (Ok x) h = h
on_ok (Err e) h = tt

-- the fault that is handed on
pub same_fault : {X : Type 0} (r : Result X StoreFault) (e : StoreFault) → r ≡ Err e → e ≡ Unavailable → IfErr r (λ f. f ≡ Unavailable)
same_fault r e is h = subst (λ r. IfErr r (λ f. f ≡ Unavailable)) (sym is) h

pub undone_then : {X E : Type 0} (old late new : State) (r : Result X E) → AreAsBefore old late → OnErr r (AreAsBefore late new) → OnErr r (AreAsBefore old new)
undone_then old late new (Ok x) first h = tt
undone_then old late new (Err e) first h = as_before_then old late new first h

-- a crash leaves what was there before, or a register of this schema
pub migration_survives : (old mid late new : State) → Survives old mid (λ _. ⊥) → Survives mid late (λ _. ⊥) → (HasCleanDisk late → late.now ≡ old.now) → Survives late new (LeavesMigrated late) → Survives old new (LeavesMigrated old)
migration_survives old mid late new first second same third =
    survives_then old late new (λ _. ⊥) (LeavesMigrated late) (LeavesMigrated old) (λ clean db none. absurd none)
    (λ clean db left c b stands. let clean_late : HasCleanDisk late = omega (arith, third.clean, clean) in left c b (still_before old late c b (same clean_late) stands))
    (survives_then old mid late (λ _. ⊥) (λ _. ⊥) (λ _. ⊥) (λ clean db none. none) (λ clean db none. none) first second) third

-- ---- why it is refused

pub number_before : (s : State) (c : Cluster) (b : Book) → StandsBefore s c b → HasNumber s.now old_schema_number
number_before s c b h = record { has = inr h.has; number = h.for.heads.number }

pub only_unavailable_before : (s : State) (c : Cluster) (b : Book) (e : StoreFault) → StandsBefore s c b → Refuses old_schema_number s.now e → e ≡ Unavailable
only_unavailable_before s c b e h told = refused_alone old_schema_number s.now e (number_before s c b h) told

-- ---- in files

pub only_unavailable_held : (image : Image) (c : Cluster) (b : Book) (e : StoreFault) → HoldsBookBefore c b image → ((d : Database) → IsDatabase d → HoldsDatabase image d.trees → Refuses old_schema_number d e) → e ≡ Unavailable
only_unavailable_held image c b e h told = refused_alone_files old_schema_number image (database_before h.trees) e h.held (record { has = inr h.has; number = h.for.heads.number }) told

-- what files hold, as a connection sees it
pub held_before : (image : Image) (s : State) (c : Cluster) (b : Book) (h : HoldsBookBefore c b image) → s.now ≡ database_before h.trees → StandsBefore s c b
held_before image s c b h is =
    record { has = subst HasOldTables (sym is) h.has; for = subst (λ (d : Database). StoodFor (tables_in d.trees) c b) (sym is) h.for }

-- a book that stands and is committed is in the files that hold what is committed
pub committed_held : (image : Image) (s : State) (c : Cluster) (b : Book) → Stands s c b → s.committed ≡ s.now → IsHeld image s.committed → HoldsBook c b image
committed_held image s c b stands settled held =
    let is : IsRegisterFor c b s.committed = subst (IsRegisterFor c b) (sym settled) (record { has = stands.has; for = stands.for }) in
    holds_book image s.committed c b is held

-- so are tables that an open wants
pub openable_held : (image : Image) (s : State) → IsOpenable s.now → s.committed ≡ s.now → IsHeld image s.committed → HoldsOpenable image
openable_held image s opens settled held = (s.committed, held, subst IsOpenable (sym settled) opens)

-- a connection that has opened files that hold a book of the schema before sees it
pub found_before : (image : Image) (s : State) (c : Cluster) (b : Book) → IsDatabase s.now → ((t : Trees) → HoldsDatabase image t → s.now.trees ≡ t) → HoldsBookBefore c b image → StandsBefore s c b
found_before image s c b sound holds h = held_before image s c b h (found_database image s.now (database_before h.trees) sound holds h.held)

-- tables in order, of the schema before, are such as its version writes
pub old_if_before : (s : State) → IsDatabase s.now → (IsOld s.now.schema → AreOrderedBefore s.now.trees) → HasOldIfBefore s.now
old_if_before s sound ordered schema = has_before s.now sound schema (ordered schema)

-- such tables, found in files, are those of a register of the schema before by the number too that they say
pub allowed_opened : (image : Image) (s : State) → IsFound image s.now → (IsOld s.now.schema → AreOrderedBefore s.now.trees) → IsOld s.now.schema → (HasSomeTables s.now → HasNumber s.now old_schema_number)
    → AllowsMigration image
allowed_opened image s found ordered schema number =
    let has = old_if_before s found.sound ordered schema in
    (s.now, found, has, number (inr has))
