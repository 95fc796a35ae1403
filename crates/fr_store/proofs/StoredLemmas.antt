-- How a variant is stored stays so where another one changes or is new.
use Rattle.std.proofs.Common.{◌≡◌, ℕ, suc, Bool, true, false, None, Some, Option, List, IsTrue, refl, sym, ap, ◌∙◌, subst}
use Rattle.std.specs.Ordering.{eq_by_cmp}
use Rattle.fr_base.specs.Tables.{Table, get, insert}
use Rattle.fr_base.specs.Keys.{names}
use Rattle.fr_base.specs.Book.{Variant}
use Rattle.fr_base.specs.declared.name.Name.{Name}
use Rattle.fr_base.proofs.SoundTables.{same_some, same_key}
use Rattle.fr_base.proofs.TableLaws.{equal, get-insert}
use Rattle.fr_tables.specs.Rows.{DroppedRow}
use Rattle.fr_store.specs.StandsFor.{Stored, HasItsParent, IsAsStored, of_parent, own_or, is_hidden, seen}

-- the variant is the same but for its grants and its release
pub record IsStill (x y : Variant) : Type 0 where
  pub parent : y.parent ≡ x.parent
  pub depth : y.depth ≡ x.depth
  pub frames : y.frames ≡ x.frames
  pub released : IsTrue x.released → IsTrue y.released

pub itself : (x : Variant) → IsStill x x
itself x = record { parent = refl; depth = refl; frames = refl; released = λ h. h }

-- each variant that is there still is
abbrev pub Extends : Table names Variant → Table names Variant → Type 0
Extends vs ws = (w : Name) (x : Variant) → get vs w ≡ Some x → (y : Variant) × (get ws w ≡ Some y) × IsStill x y

-- ---- a variant that changes, or is new

module _ (vs : Table names Variant) (v : Name) (y : Variant) where
  pub at_itself : get (insert vs v y) v ≡ Some y
  at_itself = rw (get-insert vs v y v, same_key names v) refl

  other_stays : (w : Name) (x : Variant) → get vs w ≡ Some x → eq_by_cmp names.compare w v ≡ false → get (insert vs v y) w ≡ Some x
  other_stays w x there apart = rw (get-insert vs v y w, apart) there

  pub extends_changed : (x : Variant) → get vs v ≡ Some x → IsStill x y → Extends vs (insert vs v y)
  extends_changed x at_v still w z there = by_test (eq_by_cmp names.compare w v) refl
    where
      by_test : (b : Bool) → eq_by_cmp names.compare w v ≡ b → (u : Variant) × (get (insert vs v y) w ≡ Some u) × IsStill z u
      by_test true tie =
          let same : z ≡ x = same_some z x (sym there ∙ ap (get vs) (names.exact w v (equal _ tie)) ∙ at_v) in
          (y, rw (get-insert vs v y w, tie) refl, subst (λ u. IsStill u y) (sym same) still)
      by_test false apart = (z, other_stays w z there apart, itself z)

  pub extends_new : get vs v ≡ None → Extends vs (insert vs v y)
  extends_new none w z there = by_test (eq_by_cmp names.compare w v) refl
    where
      by_test : (b : Bool) → eq_by_cmp names.compare w v ≡ b → (u : Variant) × (get (insert vs v y) w ≡ Some u) × IsStill z u
      by_test true tie = let no : Some z ≡ None = sym there ∙ ap (get vs) (names.exact w v (equal _ tie)) ∙ none in absurd cc
      by_test false apart = (z, other_stays w z there apart, itself z)

-- ---- what is stored

module _ (dropped : List DroppedRow) (vs ws : Table names Variant) (more : Extends vs ws) where
  pub parent_still : (p : Option Name) (d : ℕ) → HasItsParent vs p d → HasItsParent ws p d
  parent_still None d h = tt
  parent_still (Some name) d h =
      let it = more name h.0 h.1 in
      (it.0, it.1, it.2.released h.2, h.3 ∙ ap suc (sym it.2.depth))

  found_in : (us : Table names Variant) (p : Name) (x : Variant) (k : Name × Name) → get us p ≡ Some x → of_parent us (Some p) k ≡ get x.frames k
  unfolding of_parent
  found_in us p x k there = rw there refl

  of_parent_still : (p : Option Name) (d : ℕ) → HasItsParent vs p d → (k : Name × Name) → of_parent ws p k ≡ of_parent vs p k
  unfolding of_parent
  of_parent_still None d h k = refl
  of_parent_still (Some name) d h k =
      let it = more name h.0 h.1 in
      found_in ws name it.0 k it.1 ∙ ap (λ frames. get frames k) it.2.frames ∙ sym (found_in vs name h.0 k h.1)

  pub stored_still : (count : ℕ) (stored : Stored) (v : Name) (x y : Variant) → IsStill x y → IsAsStored count dropped vs stored v x → IsAsStored count dropped ws stored v y
  unfolding seen
  stored_still count stored v x y still h =
      let same : HasItsParent vs x.parent x.depth = h.parent in record {
        parent = subst (λ p. HasItsParent ws p y.depth) (sym still.parent) (subst (HasItsParent ws x.parent) (sym still.depth) (parent_still x.parent x.depth same));
        frames = λ k.
            ap (λ frames. get frames k) still.frames ∙ h.frames k
            ∙ sym (ap (λ p. own_or (get stored.own k) (is_hidden dropped v stored k) (of_parent ws p k)) still.parent
            ∙ ap (own_or (get stored.own k) (is_hidden dropped v stored k)) (of_parent_still x.parent x.depth same k));
        fine = λ k f there. h.fine k f (ap (λ frames. get frames k) (sym still.frames) ∙ there);
      }
