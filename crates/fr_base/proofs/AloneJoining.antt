-- A supplier that joins, over all rows and over its own: what refuses it beside other suppliers.
use Rattle.std.proofs.Common.{◌≡◌, ℕ, Bool, true, false, cond, not, ◌&&◌, ◌||◌, List, [], ◌∷◌, map, nat_le, Option, Some, is_some, Result, Ok, IfOk, refl, sym, ap, ◌∙◌, inl, inr}
use Rattle.std.specs.Prelude.{⊤, filter, length}
use Rattle.std.specs.List.{list_any}
use Rattle.std.specs.Ordering.{nat_cmp, is_eq}
use Rattle.std.specs.Cmp.{tied_itself}
use Rattle.std.specs.Cmp.Lexicographic.{slice_cmp, nat_list_cmp_total}
use Rattle.std.specs.FinMap.Entries.{find}
use Rattle.std.proofs.lemmas.Bool.{cases_Bool}
use Rattle.fr_base.specs.Refusing.{◌>>=◌, ◌>>◌, refuse◌when◌}
use Rattle.fr_base.specs.Tables.{get, contains, len, only}
use Rattle.fr_base.specs.Keys.{names}
use Rattle.fr_base.specs.Names.{same_text}
use Rattle.fr_base.specs.Cluster.{Cluster}
use Rattle.fr_base.specs.Book.{Book, listed}
use Rattle.fr_base.specs.Step.{has_key, add_supplier}
use Rattle.fr_base.specs.Alone.{rows_of, another_has, is_full}
use Rattle.fr_base.specs.declared.limits.TheConstants.{MAX_SUPPLIERS}
use Rattle.fr_base.specs.declared.key.Key.{Key}
use Rattle.fr_base.specs.declared.name.Name.{Name}
use Rattle.fr_base.specs.declared.refusal.Refusal.{Refusal}
use Rattle.fr_base.specs.declared.refusal.Refusal.TheVariants.{Exists, Limit, KeyTaken}
use Rattle.fr_base.proofs.SoundRows.{same_text-is}
use Rattle.fr_base.proofs.SoundRefusing.{gives_when}
use Rattle.fr_base.proofs.AloneRefusing.{map_ok, alike_when}
use Rattle.fr_base.proofs.AloneRows.{rows_of-supplier, rows_of-more_suppliers, rows_of-more_suppliers_other}
use Rattle.fr_base.proofs.AloneChanges.{unless, same}

-- what refuses a supplier that joins, of the others
unfoldable pub others_refuse : Name → Book → List ℕ → Result ⊤ Refusal
others_refuse s b key = do
  refuse KeyTaken when another_has s b key
  refuse Limit when is_full b

-- ---- where the supplier is not there

-- Where the name is not found among rows, it is neither the first row's nor found among the others.
behind : {A : Type 0} (t : Bool) (v : A) (o : Option A) → is_some (cond t (Some v) o) ≡ false → (t ≡ false) × (is_some o ≡ false)
behind true v o h = cc
behind false v o h = (refl, h)

module _ (s : Name) where
  -- names that do not compare as equal differ
  another : (t : Name) → is_eq (slice_cmp nat_cmp s t) ≡ false → same_text t s ≡ false
  another t apart = elim (cases_Bool (same_text t s)) [
    | inl same ↦ let none : true ≡ false = sym (ap is_eq (ap (slice_cmp nat_cmp s) (same_text-is t s same) ∙ tied_itself nat_list_cmp_total s)) ∙ apart in cc
    | inr other ↦ other
  ]

  -- none of the rows is its own
  none_own : (es : List (Name × Key)) → is_some (find (slice_cmp nat_cmp) s es) ≡ false → filter (λ e. same_text e.0 s) es ≡ []
  none_own [] free = refl
  none_own (e ∷ es) free =
      let apart = behind _ e.1 (find (slice_cmp nat_cmp) s es) free in
      rw (another e.0 apart.0) (none_own es apart.1)

  -- so whoever has the key is another supplier
  has_another : (key : Key) (es : List (Name × Key)) → is_some (find (slice_cmp nat_cmp) s es) ≡ false →
      list_any (same_text key) (map (λ t. t.key) (map listed es)) ≡ list_any (λ row. not (same_text row.0 s) && same_text key row.1) es
  has_another key [] free = refl
  has_another key (e ∷ es) free =
      let apart = behind _ e.1 (find (slice_cmp nat_cmp) s es) free in
      rw (another e.0 apart.0) (ap (λ t. same_text key e.1 || t) (has_another key es apart.1))

-- ---- one that joins

module _ (c : Cluster) (b : Book) (s : Name) (key : Key) where
  abbrev Beside : Result Book Refusal → Result Book Refusal → Type 0
  Beside r u = map_ok (rows_of s) r ≡ (u >>= unless (others_refuse s b key))

  -- it may be refused by the integrator's key in both registers, and by the others in the one
  beside-others : (i any full : Bool) (d e : Book) → any ≡ another_has s b key → full ≡ is_full b → rows_of s d ≡ e →
      Beside ((refuse KeyTaken when i || any) >> ((refuse Limit when full) >> Ok d)) ((refuse KeyTaken when i || false) >> ((refuse Limit when false) >> Ok e))
  unfolding refuse◌when◌ ◌>>◌ ◌>>=◌ unless others_refuse
  beside-others true any full d e is_any is_full rows = refl
  beside-others false any full d e is_any is_full rows = rw (sym is_any, sym is_full) (by_tests any full)
    where
      by_tests : (t u : Bool) → map_ok (rows_of s) ((refuse KeyTaken when t) >> ((refuse Limit when u) >> Ok d)) ≡ (((refuse KeyTaken when t) >> (refuse Limit when u)) >> Ok e)
      by_tests true u = refl
      by_tests false true = refl
      by_tests false false = ap Ok rows

  module _ (free : contains b.suppliers s ≡ false) where
    alone-keys : has_key c (rows_of s b) key ≡ (same_text key c.integrator || false)
    unfolding has_key rows_of only get names
    alone-keys = ap (λ es. same_text key c.integrator || list_any (same_text key) (map (λ t. t.key) (map listed es))) (none_own s b.suppliers.rows free)

    alone-room : nat_le MAX_SUPPLIERS (len (rows_of s b).suppliers) ≡ false
    unfolding rows_of only get len names
    alone-room = ap (λ (es : List (Name × Key)). nat_le MAX_SUPPLIERS (length es)) (none_own s b.suppliers.rows free)

    all-keys : has_key c b key ≡ (same_text key c.integrator || another_has s b key)
    unfolding has_key get names
    all-keys = ap (λ t. same_text key c.integrator || t) (has_another s key b.suppliers.rows free)

  pub add_supplier-own : Beside (add_supplier c b s key) (add_supplier c (rows_of s b) s key)
  unfolding add_supplier
  add_supplier-own =
      alike_when Beside (same s (others_refuse s b key)) Exists (contains b.suppliers s) _ (rows_of-supplier s b) _ _ (λ free.
      rw (alone-keys free, alone-room free, all-keys free)
      (beside-others (same_text key c.integrator) (another_has s b key) (is_full b) _ _ refl refl (rows_of-more_suppliers s b key)))

-- one that joins leaves another's rows as they were
pub add_supplier-other : (c : Cluster) (b : Book) (s t : Name) (key : Key) → same_text t s ≡ false → IfOk (add_supplier c b t key) (λ d. rows_of s d ≡ rows_of s b)
unfolding add_supplier
add_supplier-other c b s t key other =
    gives_when _ _ _ _ (λ _.
    gives_when _ _ _ _ (λ _.
    gives_when _ _ _ _ (λ _. rows_of-more_suppliers_other s b t key other)))
