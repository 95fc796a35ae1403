-- A supplier that has another key, over all rows and over its own: another supplier that has the key refuses it.
use Rattle.std.proofs.Common.{◌≡◌, ℕ, Bool, true, false, cond, not, ◌&&◌, ◌||◌, List, [], ◌∷◌, Result, Ok, IfOk, refl, sym, ap, ◌∙◌}
use Rattle.std.specs.Prelude.{⊤, filter}
use Rattle.std.specs.List.{list_any}
use Rattle.fr_base.specs.Refusing.{◌>>=◌, ◌>>◌, refuse◌when◌}
use Rattle.fr_base.specs.Tables.{contains, only}
use Rattle.fr_base.specs.Names.{same_text}
use Rattle.fr_base.specs.Cluster.{Cluster}
use Rattle.fr_base.specs.Book.{Book}
use Rattle.fr_base.specs.Step.{has_key, set_key}
use Rattle.fr_base.specs.Alone.{rows_of, another_has}
use Rattle.fr_base.specs.declared.key.Key.{Key}
use Rattle.fr_base.specs.declared.name.Name.{Name}
use Rattle.fr_base.specs.declared.refusal.Refusal.{Refusal}
use Rattle.fr_base.specs.declared.refusal.Refusal.TheVariants.{NoSupplier, KeyTaken}
use Rattle.fr_base.proofs.SuppliersLaws.{Row, keys}
use Rattle.fr_base.proofs.SoundRefusing.{gives_when, gives_unless}
use Rattle.fr_base.proofs.AloneRefusing.{alike_when}
use Rattle.fr_base.proofs.AloneRows.{rows_of-supplier, rows_of-more_suppliers, rows_of-more_suppliers_other}
use Rattle.fr_base.proofs.AloneChanges.{unless, Beside, same}

-- what refuses a supplier's other key, of the others
unfoldable pub another_refuses : Name → Book → List ℕ → Result ⊤ Refusal
another_refuses s b key = refuse KeyTaken when another_has s b key

-- ---- who has the key

module _ (s : Name) (key : List ℕ) where
  -- the supplier's own row
  abbrev own_row : List Row → List Row
  own_row es = filter (λ e. same_text e.0 s) es

  -- whether another's row has the key
  abbrev others_have : List Row → Bool
  others_have es = list_any (λ e. not (same_text e.0 s) && same_text key e.1) es

  one_parted : (own has mine others : Bool) → (has || (mine || others)) ≡ (cond own (has || mine) mine || ((not own && has) || others))
  one_parted true true mine others = refl
  one_parted true false mine others = refl
  one_parted false true true others = refl
  one_parted false true false others = refl
  one_parted false false mine others = refl

  any_of : (own : Bool) (e : Row) (es : List Row) → list_any (same_text key) (keys (cond own (e ∷ es) es)) ≡ cond own (same_text key e.1 || list_any (same_text key) (keys es)) (list_any (same_text key) (keys es))
  any_of true e es = refl
  any_of false e es = refl

  -- whoever has the key is the supplier or another
  parted : (es : List Row) → list_any (same_text key) (keys es) ≡ (list_any (same_text key) (keys (own_row es)) || others_have es)
  parted [] = refl
  parted (e ∷ es) =
      let own : Bool = same_text e.0 s in
      ap (λ t. same_text key e.1 || t) (parted es)
      ∙ one_parted own (same_text key e.1) (list_any (same_text key) (keys (own_row es))) (others_have es)
      ∙ ap (λ t. t || ((not own && same_text key e.1) || others_have es)) (sym (any_of own e (own_row es)))

-- ---- another key

-- it may be refused by the integrator's key or the supplier's own in both registers, and by the others' in the one
beside-another : (s : Name) (integrator mine others : Bool) (d e : Book) → rows_of s d ≡ e →
    Beside s (refuse KeyTaken when others) ((refuse KeyTaken when integrator || (mine || others)) >> Ok d) ((refuse KeyTaken when integrator || mine) >> Ok e)
unfolding refuse◌when◌ ◌>>◌ ◌>>=◌ unless
beside-another s true mine others d e rows = refl
beside-another s false true others d e rows = refl
beside-another s false false true d e rows = refl
beside-another s false false false d e rows = ap Ok rows

module _ (c : Cluster) (b : Book) (s : Name) (key : Key) where
  alone-keys : has_key c (rows_of s b) key ≡ (same_text key c.integrator || list_any (same_text key) (keys (own_row s key b.suppliers.rows)))
  unfolding has_key rows_of only
  alone-keys = refl

  all-keys : has_key c b key ≡ (same_text key c.integrator || (list_any (same_text key) (keys (own_row s key b.suppliers.rows)) || another_has s b key))
  unfolding has_key
  all-keys = ap (λ t. same_text key c.integrator || t) (parted s key b.suppliers.rows)

  pub set_key-own : Beside s (another_refuses s b key) (set_key c b s key) (set_key c (rows_of s b) s key)
  unfolding set_key another_refuses
  set_key-own =
      alike_when (Beside s (another_refuses s b key)) (same s (another_refuses s b key)) NoSupplier (not (contains b.suppliers s)) _ (ap not (rows_of-supplier s b)) _ _ (λ _.
      rw (alone-keys, all-keys)
      (beside-another s (same_text key c.integrator) (list_any (same_text key) (keys (own_row s key b.suppliers.rows))) (another_has s b key) _ _ (rows_of-more_suppliers s b key)))

-- another supplier's other key leaves the supplier's rows as they were
pub set_key-other : (c : Cluster) (b : Book) (s t : Name) (key : Key) → same_text t s ≡ false → IfOk (set_key c b t key) (λ d. rows_of s d ≡ rows_of s b)
unfolding set_key
set_key-other c b s t key other =
    gives_unless _ _ _ _ (λ _.
    gives_when _ _ _ _ (λ _. rows_of-more_suppliers_other s b t key other))
