-- What several changes of the tables make together.
use Rattle.std.proofs.Common.{◌≡◌, ◌++◌, List, [], ◌∷◌, map, take, ℕ, suc, ◌+◌, ◌<◌, length, get_or, inl, inr, IsTrue, append_assoc, append-nil, arith, refl, sym, ap, ◌∙◌, if◌then◌else◌}
use Rattle.std.proofs.lemmas.List.{map-append}
use Rattle.std.proofs.Math.Seq.{take-suc}
use Rattle.sqlite.proofs.StateLemmas.{survives_then}
use Rattle.sqlite.specs.State.{State, KeepsCommit, Survives}
use Rattle.fr_base.specs.declared.config.Supplier.{Supplier}
use Rattle.fr_tables.specs.Tables.{Tables, HasTables}
use Rattle.fr_tables.specs.Changes.{Changes, Stays, tables_of}
use Rattle.fr_tables.specs.Statements.{with_supplier}
use Rattle.fr_tables.specs.Filling.{supplier_row, with_suppliers}

-- what one statement after others makes
pub and_then : (f g h : Tables → Tables) → ((t : Tables) → g (f t) ≡ h t) → (old mid new : State) → IsTrue old.in_transaction → Changes f old mid → Changes g mid new → Changes h old new
and_then f g h same old mid new inside a b = record {
  has = b.has;
  now = b.now ∙ ap g a.now ∙ same (tables_of old);
  schema = b.schema ∙ a.schema;
  shown = record {
    was_open = a.shown.was_open;
    is_open = b.shown.is_open;
    now_is = refl;
    committed_is = later;
    mode = b.shown.mode ∙ a.shown.mode;
  };
}
  where
    mid_inside : IsTrue mid.in_transaction
    mid_inside = a.shown.mode ∙ inside

    later : new.committed ≡ (if old.in_transaction then old.committed else new.now)
    later = rw inside (rw mid_inside at b.shown.committed_is ∙ rw inside at a.shown.committed_is)

pub one_more : (list : List Supplier) (s : Supplier) (t : Tables) → with_supplier (supplier_row s) (with_suppliers list t) ≡ with_suppliers (list ++ s ∷ []) t
one_more list s t = ap (λ rows. record t { suppliers = rows }) (append_assoc t.suppliers (map supplier_row list) (supplier_row s ∷ []) ∙ ap (λ rows. t.suppliers ++ rows) (sym (map-append supplier_row list (s ∷ []))))

-- nothing is changed yet
pub none_yet : (old : State) → IsTrue old.is_open → IsTrue old.in_transaction → HasTables old.now → Changes (with_suppliers []) old old
none_yet old up inside was = record {
  has = was;
  now = ap (λ rows. record (tables_of old) { suppliers = rows }) (sym (append-nil (tables_of old).suppliers));
  schema = refl;
  shown = record { was_open = up; is_open = up; now_is = refl; committed_is = rw inside refl; mode = refl };
}

-- after changes a failure commits nothing
pub commits_none : (f : Tables → Tables) (old mid new : State) → IsTrue old.in_transaction → Changes f old mid → Stays mid new → KeepsCommit old new
commits_none f old mid new inside a (inl same) = record { was_open = λ up. a.shown.was_open; committed = λ up. same.0.committed_is ∙ rw inside at a.shown.committed_is }
commits_none f old mid new inside a (inr undone) = record { was_open = λ up. a.shown.was_open; committed = λ up. (undone.undone up).1 ∙ rw inside at a.shown.committed_is }

pub survives_both : (old mid new : State) → Survives old mid (λ _. ⊥) → Survives mid new (λ _. ⊥) → Survives old new (λ _. ⊥)
survives_both old mid new = survives_then old mid new _ _ _ (λ _ db none. none) (λ _ db none. none)

pub taken : (list : List Supplier) (at : ℕ) (item : Supplier) → at < length list → get_or list at item ≡ item → take (at + 1) list ≡ take at list ++ item ∷ []
taken list at item low is =
    let next : at + 1 ≡ suc at = omega arith in
    ap (λ n. take n list) next ∙ take-suc list at item low ∙ ap (λ x. take at list ++ x ∷ []) is
