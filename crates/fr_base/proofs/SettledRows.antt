-- What stands in a table where something became of a row.
use Rattle.std.proofs.Common.{◌≡◌, true, false, not, cond, Option, Some, None, ap, sym, refl, ◌∙◌, inl, inr, true≢false}
use Rattle.std.specs.Ordering.{eq_by_cmp}
use Rattle.std.proofs.lemmas.Bool.{cases_Bool}
use Rattle.fr_base.specs.Tables.{Order, Table, Fate, Becomes, Gone, left_by, get, remove, settle}
use Rattle.fr_base.specs.Names.{same_text}
use Rattle.fr_base.specs.Book.{is_of}
use Rattle.fr_base.specs.declared.name.Name.{Name}
use Rattle.fr_base.proofs.TableLaws.{equal, get-insert, get-only, kept}
use Rattle.fr_base.proofs.SoundTables.{get-put, get-remove_other, same_key}
use Rattle.fr_base.proofs.AloneCells.{same_text-itself}

module _ {K V : Type 0} {o : Order K} where
  -- what becomes of a row leaves every other
  pub settle-other : (t : Table o V) (k q : K) (fate : Fate V) → (k ≡ q → ⊥) → get (settle t k fate) q ≡ get t q
  unfolding settle
  settle-other t k q (Becomes v) other = elim (cases_Bool (eq_by_cmp o.compare q k)) [
    | inl tie ↦ absurd (other (sym (o.exact q k (equal _ tie))))
    | inr apart ↦ get-insert t k v q ∙ ap (λ b. cond b (Some v) (get t q)) apart
  ]
  settle-other t k q Gone other = elim (cases_Bool (eq_by_cmp o.compare k q)) [
    | inl tie ↦ absurd (other (o.exact k q (equal _ tie)))
    | inr apart ↦ get-remove_other o t k q apart
  ]

  -- and the row is what became of it
  pub settle-here : (t : Table o V) (k : K) (fate : Fate V) → get (settle t k fate) k ≡ left_by fate
  unfolding settle remove
  settle-here t k (Becomes v) = get-put t k v
  settle-here t k Gone = get-only o (λ j _. not (eq_by_cmp o.compare k j)) t k ∙ out (get t k)
    where
      out : (there : Option V) → kept (λ j _. not (eq_by_cmp o.compare k j)) k there ≡ None
      out None = refl
      out (Some v) = ap (λ b. cond (not b) (Some v) None) (same_key o k)

-- frames of one supplier that have other names stand at other keys
pub other_frame : (s f g : Name) → same_text f g ≡ false → ◌≡◌ {A = Name × Name} (s, f) (s, g) → ⊥
other_frame s f g other same = true≢false (sym (ap (λ (k : Name × Name). same_text f k.1) (sym same) ∙ same_text-itself f) ∙ other)

-- and those of other suppliers
pub not_mine : (s f : Name) (k : Name × Name) → is_of s k ≡ false → ◌≡◌ {A = Name × Name} (s, f) k → ⊥
not_mine s f k other same = true≢false (sym (same_text-itself s) ∙ ap (is_of s) same ∙ other)
