-- What a crash leaves of a register, after a call.
use Rattle.std.proofs.Common.{◌≡◌, ◌⊎◌, inl, inr, List, ◌∷◌, Result, Ok, Err, OnOk, OnErr, IsTrue, sym, subst, ap, arith, ◌∙◌}
use Rattle.sqlite.specs.State.{State, HasCleanDisk, Survives}
use Rattle.fr_base.specs.Book.{Book}
use Rattle.fr_base.specs.Cluster.{Cluster, ClusterFile}
use Rattle.fr_world.specs.BookEdits.{all_applied}
use Rattle.fr_world.specs.Fits.{AllFit}
use Rattle.fr_world.specs.declared.edit.Edit.{Edit}
use Rattle.fr_world.specs.Held.{Reads}
use Rattle.fr_store.specs.Applying.{LeavesAll}
use Rattle.fr_store.specs.Crashes.{IsForOne, LeavesOnly, StoredLeaves}
use Rattle.fr_store.specs.Reading.{Leaves, Stands}
use Rattle.fr_store.specs.declared.fault.StoreFault.{StoreFault}
use Rattle.fr_tables.specs.Changes.{Spares, Stays}
use Rattle.fr_tables.specs.SchemaNumbers.{AreAsBefore}
use Rattle.fr_tables.specs.Tables.{HasTables}

-- one more book may be left
pub one_more : (s : State) (c : Cluster) (x : Book) (books : List Book) → LeavesOnly s c books → LeavesOnly s c (x ∷ books)
one_more s c x books left db may = inr (left db may)

-- a call of which a crash leaves nothing adds no book
pub adds_none : (old new : State) → Survives old new (λ _. ⊥) → HasCleanDisk new → (c : Cluster) (books : List Book) → LeavesOnly old c books → LeavesOnly new c books
adds_none old new survives clean c books left db may = from (survives.crash clean db may)
  where
    from : old.may_leave db ⊎ ⊥ → IsForOne c books db
    from (inl before) = left db before
    from (inr none) = absurd none

-- edits add the book after them
pub adds_edited : (old new : State) (edits : List Edit) → Survives old new (LeavesAll edits old) → HasCleanDisk new → (c : Cluster) (b : Book) (books : List Book)
    → Stands old c b → AllFit c.params b edits → LeavesOnly old c books → LeavesOnly new c (all_applied b edits ∷ books)
adds_edited old new edits survives clean c b books stands fit left db may = from (survives.crash clean db may)
  where
    from : old.may_leave db ⊎ LeavesAll edits old db → IsForOne c (all_applied b edits ∷ books) db
    from (inl before) = inr (left db before)
    from (inr after) = inl (after c b stands fit)

-- where nothing was changed, or a transaction was undone of which nothing was committed
pub stays_left : (old new : State) → Survives old new (λ _. ⊥) → HasCleanDisk new → Stays old new → (c : Cluster) (books : List Book) → StoredLeaves old c books → StoredLeaves new c books
stays_left old new survives clean stays c books h = record { rows = kept stays; left = adds_none old new survives clean c books h.left }
  where
    kept : Stays old new → IsTrue new.is_open → HasTables new.now × (new.committed ≡ new.now)
    kept (inl same) up =
        let rows = h.rows same.0.was_open in
        (subst HasTables (sym same.0.now_is) rows.0, same.0.committed_is ∙ rows.1 ∙ sym same.0.now_is)
    kept (inr back) up =
        let rows = h.rows (back.was_open up) in
        let undone = back.undone up in
        (subst HasTables (sym (undone.0 ∙ rows.1)) rows.0, undone.1 ∙ sym undone.0)

-- so where a register's tables were read
pub read_left : (old new : State) → Spares old new → HasCleanDisk new → IsTrue old.is_open → Leaves old new → (c : Cluster) (books : List Book) → StoredLeaves old c books → StoredLeaves new c books
read_left old new spares clean up leaves c books h =
    let has = (h.rows up).0 in
    stays_left old new (record { clean = spares.clean; shield = spares.shield; counts = spares.counts; limit = spares.limit; closes = spares.closes; crash = λ late db may. only (spares.crash late db may) has })
    clean (leaves clean has) c books h
  where
    only : {A B : Type 0} → A ⊎ (¬ B) → B → A ⊎ ⊥
    only (inl a) b = inl a
    only (inr none) b = absurd (none b)

-- a store of which it was seen whether it is open
pub reads_looked : {T : Type 0} (state_of : T → State) (file_of : T → ClusterFile) (old new : T) → Survives (state_of old) (state_of new) (λ _. ⊥) → file_of new ≡ file_of old
    → (HasCleanDisk (state_of new) → Stays (state_of old) (state_of new))
    → Reads (λ s. HasCleanDisk (state_of s)) (λ s. (file_of s).cluster.params) (λ s. StoredLeaves (state_of s)) old new
reads_looked state_of file_of old new survives same stays = record {
  falls = λ clean. omega (arith, survives.clean, clean);
  same = ap (λ (f : ClusterFile). f.cluster.params) same;
  leaves = λ clean c books left. stays_left (state_of old) (state_of new) survives clean (stays clean) c books left;
}

-- a store whose tables were read, after it was seen to be open
module _ {T : Type 0} (state_of : T → State) (file_of : T → ClusterFile) (old mid new : T) where
  abbrev OnlyRead : T → T → Type 0
  OnlyRead = Reads (λ s. HasCleanDisk (state_of s)) (λ s. (file_of s).cluster.params) (λ s. StoredLeaves (state_of s))

  pub reads_on : OnlyRead old mid → (HasCleanDisk (state_of mid) → IsTrue (state_of mid).is_open) → Spares (state_of mid) (state_of new) → file_of new ≡ file_of mid
      → Leaves (state_of mid) (state_of new) → OnlyRead old new
  reads_on first up spares same leaves = record {
    falls = λ clean. first.falls (before clean);
    same = ap (λ (f : ClusterFile). f.cluster.params) same ∙ first.same;
    leaves = λ clean c books left.
        read_left (state_of mid) (state_of new) spares clean (up (before clean)) leaves c books (first.leaves (before clean) c books left);
  }
    where
      before : HasCleanDisk (state_of new) → HasCleanDisk (state_of mid)
      before clean = omega (arith, spares.clean, clean)

-- where edits were carried out, or none was
pub edited_left : {X : Type 0} (old new : State) (edits : List Edit) (r : Result X StoreFault) → Survives old new (LeavesAll edits old) → HasCleanDisk new → (c : Cluster) (b : Book) (books : List Book)
    → Stands old c b → (old.committed ≡ old.now) → AllFit c.params b edits → OnOk r (Stands new c (all_applied b edits)) → OnOk r (new.committed ≡ new.now) → OnErr r (AreAsBefore old new) → StoredLeaves old c books
    → StoredLeaves new c (all_applied b edits ∷ books)
edited_left old new edits r survives clean c b books stands same fit made settled undone h =
    record { rows = kept r made settled undone; left = adds_edited old new edits survives clean c b books stands fit h.left }
  where
    kept : {X : Type 0} (r : Result X StoreFault) → OnOk r (Stands new c (all_applied b edits)) → OnOk r (new.committed ≡ new.now) → OnErr r (AreAsBefore old new) → IsTrue new.is_open
        → HasTables new.now × (new.committed ≡ new.now)
    kept (Ok x) made settled undone up = (made.has, settled)
    kept (Err e) made settled undone up =
        let back = undone up in
        (subst HasTables (sym back.1) stands.has, back.2 ∙ same ∙ sym back.1)
