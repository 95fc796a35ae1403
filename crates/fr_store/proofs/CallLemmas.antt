-- Calls inside a transaction: what a statement makes of an edit, alone and after other calls.
use Rattle.std.proofs.Common.{◌≡◌, ◌∙◌, ℕ, List, Option, Some, None, ok_or, Ok, Err, Result, IsTrue, IfErr, refl, sym, subst, arith}
use Rattle.std.specs.Prelude.{⊤, OnOk, MatchResult}
use Rattle.sqlite.specs.declared.error.Error.{Error}
use Rattle.sqlite.specs.declared.transaction.Transaction.{Transaction}
use Rattle.sqlite.specs.Held.{state}
use Rattle.sqlite.specs.State.{State, HasCleanDisk, KeepsCommit, Survives}
use Rattle.sqlite_trees.specs.declared.store.Store.{Ghosts}
use Rattle.fr_base.specs.Tables.{get}
use Rattle.fr_base.specs.Cluster.{Cluster}
use Rattle.fr_base.specs.Book.{Frame, Variant, Book}
use Rattle.fr_base.specs.Changes.{in_rows}
use Rattle.fr_base.specs.declared.name.Name.{Name}
use Rattle.fr_base.specs.declared.request.Change.TheVariants.{Frame as OfFrame}
use Rattle.fr_base.specs.declared.request.FrameChange.{FrameChange}
use Rattle.fr_world.specs.BookEdits.{applied}
use Rattle.fr_world.specs.Fits.{Fits, IsOpen, IsCounted}
use Rattle.fr_world.specs.declared.edit.Edit.{Edit}
use Rattle.fr_world.specs.declared.edit.Edit.TheVariants.{Rows}
use Rattle.fr_tables.specs.Tables.{Tables, HasTables}
use Rattle.fr_tables.specs.Changes.{Changes, Makes, MakesCopies, Runs, Stays, tables_of}
use Rattle.fr_tables.proofs.FillLemmas.{survives_both}
use Rattle.fr_tables.specs.declared.frame_key.FrameKey.{FrameKey}
use Rattle.fr_tables.specs.Rows.{key_of}
use Rattle.fr_store.specs.Applying.{CarriesOut, Edits, GoesOn, IsDone, LeavesConfig, StaysInside}
use Rattle.fr_store.specs.FrameEdits.{EditsFrame, FitsAt}
use Rattle.fr_store.specs.Owning.{MakesFrameCopies, MakesOwn, is_own}
use Rattle.fr_store.specs.Reading.{Stands}
use Rattle.fr_store.specs.Sparing.{HasSameFrames, SparesFrames}
use Rattle.fr_store.specs.declared.fault.StoreFault.{StoreFault}
use Rattle.fr_store.specs.declared.fault.StoreFault.TheVariants.{Unavailable}
use Rattle.fr_store.proofs.EditLemmas.{frame_carried}
use Rattle.fr_store.proofs.InsideLemmas.{keeps_stay, keeps_then, made_inside}
use Rattle.fr_store.proofs.SparingLemmas.{frames_spared}

-- what the connection shows
abbrev pub seen : {S : Type 0} → Ghosts S → Transaction S → State
seen g tx = state g tx.conn.now

-- ---- what stays

-- nothing is committed, and the transaction is not over
abbrev pub KeepsOn : State → State → Type 0
KeepsOn old new = HasCleanDisk new → IsTrue old.in_transaction → HasTables old.now → KeepsCommit old new × GoesOn new

pub makes_stays : {X E : Type 0} (change : Tables → Tables) (old new : State) (r : Result X E) → Makes change old new r → StaysInside old new r
makes_stays change old new (Ok x) h clean inside has = made_inside change old new inside (h clean inside has)
makes_stays change old new (Err e) h clean inside has = (keeps_stay old new (h clean inside has), tt)

pub copies_stay : {X Y E : Type 0} (rows : Tables → List X) (put : List X → Tables → Tables) (old new : State) (r : Result Y E) → MakesCopies rows put old new r → StaysInside old new r
copies_stay rows put old new (Ok x) h clean inside has = let copies = h clean inside has in made_inside (put copies.copies) old new inside copies.added
copies_stay rows put old new (Err e) h clean inside has = (keeps_stay old new (h clean inside has), tt)

pub frame_copies_stay : {X E : Type 0} (from to s f : Name) (old new : State) (r : Result X E) → MakesFrameCopies from (key_of to s f) old new r → StaysInside old new r
frame_copies_stay from to s f old new (Ok x) h clean inside has = made_inside _ old new inside (h clean inside has).added
frame_copies_stay from to s f old new (Err e) h clean inside has = (h clean inside has, tt)

pub stays_then : {X E : Type 0} (a b c : State) (r : Result X E) → Survives b c (λ _. ⊥) → KeepsOn a b → StaysInside b c r → StaysInside a c r
stays_then a b c r after first second clean inside has =
    let clean_b : HasCleanDisk b = omega (arith, after.clean, clean) in
    let so = first clean_b inside has in
    let more = second clean so.1.inside so.1.has in
    (keeps_then a b c so.0 more.0, more.1)

pub keeps_on : (a b c : State) → Survives b c (λ _. ⊥) → KeepsOn a b → KeepsOn b c → KeepsOn a c
keeps_on a b c after first second = stays_then {X = ⊤} {E = Error} a b c (Ok tt) after first second

-- ---- a statement that ran, or failed

pub on_done : (A B P : Type 0) (ran : Result ℕ Error) (r : Result ⊤ StoreFault) → IsDone ran r → MatchResult ran (λ _. A) (λ _. B) → (A → P) → OnOk r P
on_done A B P (Ok count) r done h so = subst (λ (r : Result ⊤ StoreFault). OnOk r P) (sym done) (so h)
on_done A B P (Err e) r done h so = subst (λ (r : Result ⊤ StoreFault). OnOk r P) (sym done) tt

pub done_refused : (ran : Result ℕ Error) (r : Result ⊤ StoreFault) → IsDone ran r → IfErr r (λ fault. fault ≡ Unavailable)
done_refused (Ok count) r done = subst (λ (r : Result ⊤ StoreFault). IfErr r (λ fault. fault ≡ Unavailable)) (sym done) tt
done_refused (Err e) r done = subst (λ (r : Result ⊤ StoreFault). IfErr r (λ fault. fault ≡ Unavailable)) (sym done) refl

pub done_stays : (old new : State) (ran : Result ℕ Error) (r : Result ⊤ StoreFault) → IsDone ran r → StaysInside old new ran → StaysInside old new r
done_stays old new (Ok count) r done h = subst (λ (r : Result ⊤ StoreFault). StaysInside old new r) (sym done) h
done_stays old new (Err e) r done h = subst (λ (r : Result ⊤ StoreFault). StaysInside old new r) (sym done) h

-- what is not there is refused
pub refused_or : {X : Type 0} (o : Option X) (r : Result X StoreFault) → r ≡ ok_or o Unavailable → IfErr r (λ fault. fault ≡ Unavailable)
refused_or {X} (Some x) r is = subst (λ (r : Result X StoreFault). IfErr r (λ fault. fault ≡ Unavailable)) (sym is) tt
refused_or {X} None r is = subst (λ (r : Result X StoreFault). IfErr r (λ fault. fault ≡ Unavailable)) (sym is) refl

-- ---- edits

-- an edit that is one statement
pub edit_done : {S : Type 0} (g : Ghosts S) (change : Tables → Tables) (edit : Edit) (old new : Transaction S) (ran : Result ℕ Error) (r : Result ⊤ StoreFault)
    → Runs g (Makes change) old new ran → IsDone ran r
    → (Changes change (seen g old) (seen g new) → (c : Cluster) (b : Book) → Stands (seen g old) c b → Fits c.params b edit → Stands (seen g new) c (applied b edit))
    → Edits g (CarriesOut edit) old new r
edit_done g change edit old new ran r runs done made = record {
  same_reference = runs.same_reference;
  does = λ clean inside c b stands fits.
      on_done (Changes change (seen g old) (seen g new)) (Stays (seen g old) (seen g new)) (Stands (seen g new) c (applied b edit)) ran r done (runs.does clean inside stands.has)
      (λ changed. made changed c b stands fits);
  stays = done_stays (seen g old) (seen g new) ran r done (makes_stays change (seen g old) (seen g new) ran runs.does);
  refused = done_refused ran r done;
  survives = runs.survives;
}

-- such an edit leaves the rows of frames, where its statement does
pub spared_done : {S : Type 0} (g : Ghosts S) (change : Tables → Tables) (old new : Transaction S) (ran : Result ℕ Error) (r : Result ⊤ StoreFault)
    → Runs g (Makes change) old new ran → IsDone ran r → ((t : Tables) → HasSameFrames t (change t)) → SparesFrames (seen g old) (seen g new) r
spared_done g change old new ran r runs done each clean inside has =
    on_done (Changes change (seen g old) (seen g new)) (Stays (seen g old) (seen g new)) (HasSameFrames (tables_of (seen g old)) (tables_of (seen g new))) ran r done (runs.does clean inside has)
    (frames_spared change (seen g old) (seen g new) each)

-- the edit of a frame is one of the register
pub edit_of_frame : {S : Type 0} (g : Ghosts S) (v s f : Name) (key : FrameKey) → key ≡ key_of v s f → (what : FrameChange) (old new : Transaction S) (r : Result ⊤ StoreFault)
    → Edits g (EditsFrame key what) old new r → Edits g (CarriesOut (Rows (in_rows s v (OfFrame f what)))) old new r
edit_of_frame g v s f key is what old new r h = record {
  same_reference = h.same_reference;
  does = frame_carried v s f what (seen g old) (seen g new) r (subst (λ k. EditsFrame k what (seen g old) (seen g new) r) is h.does);
  stays = h.stays;
  refused = h.refused;
  survives = h.survives;
}

-- a statement that changes a frame after the frame was made the variant's own
pub own_then : {S : Type 0} {g : Ghosts S} (change : Tables → Tables) (v s f : Name) (what : FrameChange) {old mid new : Transaction S} {ran : Result ℕ Error} (r : Result ⊤ StoreFault) {x : ⊤}
    → Edits g (MakesOwn (key_of v s f)) old mid (Ok x) → Runs g (Makes change) mid new ran → IsDone ran r
    → ((there : Option Frame) → FitsAt there what → (frame : Frame) × (there ≡ Some frame))
    → (Changes change (seen g mid) (seen g new) → (c : Cluster) (b : Book) (x : Variant) (frame : Frame) → Stands (seen g mid) c b → IsOpen b v x → get x.frames (s, f) ≡ Some frame
    → IsTrue (is_own (key_of v s f) (tables_of (seen g mid))) → FitsAt (get x.frames (s, f)) what → IsCounted c.params (OfFrame f what) → Stands (seen g new) c (applied b (Rows (in_rows s v (OfFrame f what)))))
    → Edits g (EditsFrame (key_of v s f) what) old new r
own_then {g = g} change v s f what {old = old} {mid = mid} {new = new} {ran = ran} r own runs done there made = record {
  same_reference = runs.same_reference ∙ own.same_reference;
  does = λ clean inside c b x stands is fits counted.
      let clean_mid : HasCleanDisk (seen g mid) = omega (arith, runs.survives.clean, clean) in
      let shown = there (get x.frames (s, f)) fits in
      let stood = own.does clean_mid inside c b stands x shown.0 is shown.1 in
      let goes = (own.stays clean_mid inside stands.has).1 in
      on_done (Changes change (seen g mid) (seen g new)) (Stays (seen g mid) (seen g new)) (Stands (seen g new) c (applied b (Rows (in_rows s v (OfFrame f what))))) ran r done (runs.does clean goes.inside goes.has)
      (λ changed. made changed c b x shown.0 stood.0 is shown.1 stood.1 fits counted);
  stays = stays_then (seen g old) (seen g mid) (seen g new) r runs.survives own.stays (done_stays (seen g mid) (seen g new) ran r done (makes_stays change (seen g mid) (seen g new) ran runs.does));
  refused = done_refused ran r done;
  survives = survives_both (seen g old) (seen g mid) (seen g new) own.survives runs.survives;
}

-- ---- the config

-- an edit after which the config stays
pub edit_stays : {S X : Type 0} (g : Ghosts S) (edit : Edit) (old new : Transaction S) (ran : Result ⊤ StoreFault) (r : Result (Option X) StoreFault)
    → LeavesConfig ran r → Edits g (CarriesOut edit) old new ran → Edits g (CarriesOut edit) old new r
edit_stays {X = X} g edit old new (Ok x) r is h = subst (λ (r : Result (Option X) StoreFault). Edits g (CarriesOut edit) old new r) (sym is) (record {
  same_reference = h.same_reference;
  does = h.does;
  stays = h.stays;
  refused = tt;
  survives = h.survives;
})
edit_stays {X = X} g edit old new (Err fault) r is h = subst (λ (r : Result (Option X) StoreFault). Edits g (CarriesOut edit) old new r) (sym is) (record {
  same_reference = h.same_reference;
  does = h.does;
  stays = h.stays;
  refused = h.refused;
  survives = h.survives;
})

-- an edit of which the one statement ran, where the answer gives the config after it
pub edit_made : {S X : Type 0} (g : Ghosts S) (change : Tables → Tables) (edit : Edit) (old new : Transaction S) {count : ℕ} {x : X}
    → Runs {E = Error} g (Makes change) old new (Ok count)
    → (Changes change (seen g old) (seen g new) → (c : Cluster) (b : Book) → Stands (seen g old) c b → Fits c.params b edit → Stands (seen g new) c (applied b edit))
    → Edits g (CarriesOut edit) old new (Ok x)
edit_made g change edit old new runs made = record {
  same_reference = runs.same_reference;
  does = λ clean inside c b stands fits. made (runs.does clean inside stands.has) c b stands fits;
  stays = λ clean inside has. made_inside change (seen g old) (seen g new) inside (runs.does clean inside has);
  refused = tt;
  survives = runs.survives;
}
