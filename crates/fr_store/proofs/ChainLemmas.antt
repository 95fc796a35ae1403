-- Reads one after the other.
use Rattle.std.proofs.Common.{◌≡◌, IsTrue, inl, inr, sym, ap, subst, arith, ◌∙◌}
use Rattle.sqlite.specs.State.{State, HasCleanDisk, IsUnchanged}
use Rattle.sqlite.proofs.StateLemmas.{survives_then}
use Rattle.fr_base.specs.Book.{Book}
use Rattle.fr_base.specs.Cluster.{Cluster}
use Rattle.fr_tables.specs.Tables.{Tables, HasTables, tables_in}
use Rattle.fr_tables.specs.Changes.{Stays, Spares, tables_of}
use Rattle.fr_store.specs.Reading.{Leaves, Stands}
use Rattle.fr_store.specs.StandsFor.{StandsFor}

pub unchanged_then : (a b c : State) → IsUnchanged a b → IsUnchanged b c → IsUnchanged a c
unchanged_then a b c h k = (
  record { was_open = h.0.was_open; is_open = k.0.is_open; now_is = k.0.now_is ∙ h.0.now_is; committed_is = k.0.committed_is ∙ h.0.committed_is; mode = k.0.mode ∙ h.0.mode },
  record { changes = k.1.changes ∙ h.1.changes; last_rowid = k.1.last_rowid ∙ h.1.last_rowid },
  k.2 ∙ h.2,
)

pub stays_then : (a b c : State) → IsUnchanged a b → Stays b c → Stays a c
stays_then a b c h (inl k) = inl (unchanged_then a b c h k)
stays_then a b c h (inr k) = inr (record {
  was_open = λ up. h.0.was_open;
  undone = λ up. ((k.undone up).0 ∙ h.0.committed_is, (k.undone up).1 ∙ h.0.committed_is);
  autocommit = k.autocommit;
  unmarked = k.unmarked;
  counts = record { changes = k.counts.changes ∙ h.1.changes; last_rowid = k.counts.last_rowid ∙ h.1.last_rowid };
})

-- the tables are there still
pub has_still : (a b : State) → IsUnchanged a b → HasTables a.now → HasTables b.now
has_still a b h was = subst HasTables (sym h.0.now_is) was

-- and are the same
pub same_tables : (a b : State) → IsUnchanged a b → tables_of b ≡ tables_of a
same_tables a b h = ap (λ d. tables_in d.trees) h.0.now_is

pub spares_then : (a b c : State) → Spares a b → (HasCleanDisk c → HasTables a.now → IsUnchanged a b) → Spares b c → Spares a c
spares_then a b c h same k = survives_then a b c _ _ _ (λ clean db none. none) (λ clean db none was. none (has_still a b (same clean was) was)) h k

-- where all is committed, the tables stand for the same book after a read
pub still_stands : (old new : State) → Leaves old new → HasCleanDisk new → IsTrue new.is_open → old.committed ≡ old.now → (c : Cluster) (b : Book) → Stands old c b
    → Stands new c b × (new.committed ≡ new.now)
still_stands old new leaves clean up settled c b stands = elim (leaves clean stands.has) [
  | inl same ↦ (stands_in (sym same.0.now_is), same.0.committed_is ∙ settled ∙ sym same.0.now_is)
  | inr back ↦ let undone = back.undone up in (stands_in (sym (undone.0 ∙ settled)), undone.1 ∙ sym undone.0)
]
  where
    stands_in : old.now ≡ new.now → Stands new c b
    stands_in is = record { has = subst HasTables is stands.has; for = subst (λ d. StandsFor (tables_in d.trees) c b) is stands.for }

-- ---- so far

-- so far the tables were read and left
pub record IsQuiet (old now : State) : Type 0 where
  pub spares : Spares old now
  pub same : HasCleanDisk now → HasTables old.now → IsUnchanged old now

-- as after a first read
pub quiet_first : {Said : Type 0} (old now : State) → Spares old now → (HasCleanDisk now → HasTables old.now → Said × IsUnchanged old now) → IsQuiet old now
quiet_first old now spares told = record { spares = spares; same = λ clean was. (told clean was).1 }

module _ (old mid now : State) (quiet : IsQuiet old mid) (spares : Spares mid now) where
  still_clean : HasCleanDisk now → HasCleanDisk mid
  still_clean clean = omega (arith, spares.clean, clean)

  pub quiet_spares : Spares old now
  quiet_spares = spares_then old mid now quiet.spares (λ clean was. quiet.same (still_clean clean) was) spares

  -- what the next read says, it says of the first tables
  pub quiet_told : (says : Tables → Type 0) → (HasCleanDisk now → HasTables mid.now → says (tables_of mid) × IsUnchanged mid now) → HasCleanDisk now → HasTables old.now
      → says (tables_of old) × IsUnchanged old now
  quiet_told says told clean was =
      let before = quiet.same (still_clean clean) was in
      let here = told clean (has_still old mid before was) in
      (subst says (same_tables old mid before) here.0, unchanged_then old mid now before here.1)

  pub quiet_then : (says : Tables → Type 0) → (HasCleanDisk now → HasTables mid.now → says (tables_of mid) × IsUnchanged mid now) → IsQuiet old now
  quiet_then says told = record { spares = quiet_spares; same = λ clean was. (quiet_told says told clean was).1 }
