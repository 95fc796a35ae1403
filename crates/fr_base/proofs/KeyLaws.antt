-- The suppliers of a book as a cluster file lists them, after one has another key.
use Rattle.std.proofs.Common.{◌≡◌, Bool, true, false, cond, not, ◌&&◌, ◌||◌, List, [], ◌∷◌, map, nat_le, Some, is_some, Ok, IsTrue, refl, sym, ap, subst, ◌∙◌, Less, Equal, Greater, true≢false}
use Rattle.std.specs.Prelude.{T}
use Rattle.std.specs.List.{list_all, list_any}
use Rattle.std.specs.Ordering.{is_lt, is_eq}
use Rattle.std.specs.Cmp.{tied_itself}
use Rattle.std.specs.Cmp.Lexicographic.{nat_list_cmp_total}
use Rattle.std.specs.FinMap.Entries.{put, find, below_all, is_sorted, by_order}
use Rattle.std.proofs.lemmas.Bool.{or_parts}
use Rattle.std.proofs.lemmas.List.{length-map}
use Rattle.std.proofs.lemmas.Map.Text.{is_eq-slice_cmp}
use Rattle.fr_base.specs.TableRows.{first, second}
use Rattle.fr_base.specs.Keys.{names}
use Rattle.fr_base.specs.Names.{is_name, is_key, same_text}
use Rattle.fr_base.specs.Cluster.{Cluster, ClusterFile, is_before, names_rise, keys_differ, keys_of, is_cluster, IsWellFormed}
use Rattle.fr_base.specs.Book.{Book, listed, file_of}
use Rattle.fr_base.specs.Tables.{get, contains, insert}
use Rattle.fr_base.specs.Step.{has_key, set_key}
use Rattle.fr_base.specs.KeyChanges.{keyed, with_key, admits_key}
use Rattle.fr_base.specs.Refusing.{◌>>◌, refuse◌when◌}
use Rattle.fr_base.specs.declared.limits.TheConstants.{MAX_SUPPLIERS}
use Rattle.fr_base.specs.declared.refusal.Refusal.TheVariants.{NoSupplier, KeyTaken}
use Rattle.fr_base.specs.declared.config.Supplier.{Supplier}
use Rattle.fr_base.specs.declared.key.Key.{Key}
use Rattle.fr_base.specs.declared.name.Name.{Name}
use Rattle.fr_base.proofs.TableLaws.{none_above}
use Rattle.fr_base.proofs.SoundRows.{same_text-is}
use Rattle.fr_base.proofs.SuppliersLaws.{Row, R, parts, together, is_less, further, rises, other_way, contains-listed}

-- the keys of some suppliers
abbrev keys_in : List Supplier → List Key
keys_in ss = map (λ s. s.key) ss

not_that : (b : Bool) → IsTrue (not b) → b ≡ false
not_that true h = cc
not_that false h = refl

module _ (s : Name) (k : Key) where
  -- ---- names stay

  name_stays : (t : Supplier) → (keyed s k t).name ≡ t.name
  name_stays t = elim (same_text s t.name) as (λ b. (cond b (record t { key = k }) t).name ≡ t.name) [ true ↦ refl | false ↦ refl ]

  before_stays : (n : Name) (ss : List Supplier) → is_before n (map (keyed s k) ss) ≡ is_before n ss
  before_stays n [] = refl
  before_stays n (t ∷ ts) = ap (λ m. is_lt (R n m)) (name_stays t)

  rise_stays : (ss : List Supplier) → names_rise (map (keyed s k) ss) ≡ names_rise ss
  rise_stays [] = refl
  rise_stays (t ∷ ts) =
      ap (λ m. is_before m (map (keyed s k) ts) && names_rise (map (keyed s k) ts)) (name_stays t)
      ∙ ap (λ b. b && names_rise (map (keyed s k) ts)) (before_stays t.name ts)
      ∙ ap (λ b. is_before t.name ts && b) (rise_stays ts)

  names_stay : (ss : List Supplier) → list_all (λ t. is_name t.name) (map (keyed s k) ss) ≡ list_all (λ t. is_name t.name) ss
  names_stay [] = refl
  names_stay (t ∷ ts) =
      ap (λ m. is_name m && list_all (λ t. is_name t.name) (map (keyed s k) ts)) (name_stays t)
      ∙ ap (λ b. is_name t.name && b) (names_stay ts)

  -- ---- keys

  -- a test that fails of the new key fails of the keys if it did before
  any_keyed : (p : Key → Bool) (ss : List Supplier) → p k ≡ false → list_any p (keys_in ss) ≡ false → list_any p (keys_in (map (keyed s k) ss)) ≡ false
  any_keyed p [] new old = refl
  any_keyed p (t ∷ ts) new old =
      let apart = or_parts _ _ old in
      elim (same_text s t.name) as (λ b. (p (cond b (record t { key = k }) t).key || list_any p (keys_in (map (keyed s k) ts))) ≡ false) [
        | true ↦ ap (λ b. b || list_any p (keys_in (map (keyed s k) ts))) new ∙ any_keyed p ts new apart.1
        | false ↦ ap (λ b. b || list_any p (keys_in (map (keyed s k) ts))) apart.0 ∙ any_keyed p ts new apart.1
      ]

  keys_formed : (ss : List Supplier) → IsTrue (is_key k) → IsTrue (list_all is_key (keys_in ss)) → IsTrue (list_all is_key (keys_in (map (keyed s k) ss)))
  keys_formed [] formed old = refl
  keys_formed (t ∷ ts) formed old =
      let both = parts _ _ old in
      elim (same_text s t.name) as (λ b. IsTrue (is_key (cond b (record t { key = k }) t).key && list_all is_key (keys_in (map (keyed s k) ts)))) [
        | true ↦ together _ _ formed (keys_formed ts formed both.1)
        | false ↦ together _ _ both.0 (keys_formed ts formed both.1)
      ]

  -- a name before the first of names that rise is none of them
  before_next : (t : Supplier) (ts : List Supplier) → R s t.name ≡ Less → IsTrue (is_before t.name ts) → IsTrue (is_before s ts)
  before_next t [] before h = refl
  before_next t (u ∷ us) before h = ap is_lt (nat_list_cmp_total.trans s t.name u.name before (is_less _ h))

  unkeyed : (ss : List Supplier) → IsTrue (is_before s ss) → IsTrue (names_rise ss) → map (keyed s k) ss ≡ ss
  unkeyed [] before rise = refl
  unkeyed (t ∷ ts) before rise =
      let later = parts _ _ rise in
      let less : R s t.name ≡ Less = is_less _ before in
      let other : same_text s t.name ≡ false = sym (is_eq-slice_cmp s t.name) ∙ ap is_eq less in
      ap (λ b. cond b (record t { key = k }) t ∷ map (keyed s k) ts) other
      ∙ ap (λ us. t ∷ us) (unkeyed ts (before_next t ts less later.0) later.1)

  -- keys that differ still do
  differ_keyed : (ss : List Supplier) → IsTrue (names_rise ss) → list_any (same_text k) (keys_in ss) ≡ false → IsTrue (keys_differ (keys_in ss)) → IsTrue (keys_differ (keys_in (map (keyed s k) ss)))
  differ_keyed [] rise new differ = refl
  differ_keyed (t ∷ ts) rise new differ =
      let later = parts _ _ rise in
      let others = or_parts _ _ new in
      let old = parts _ _ differ in
      elim (same_text s t.name) as (λ b. same_text s t.name ≡ b → IsTrue (keys_differ (keys_in (cond b (record t { key = k }) t ∷ map (keyed s k) ts)))) [
        | true ↦ λ is.
            let rest : map (keyed s k) ts ≡ ts = unkeyed ts (subst (λ n. IsTrue (is_before n ts)) (sym (same_text-is s t.name is)) later.0) later.1 in
            subst (λ us. IsTrue (keys_differ (k ∷ keys_in us))) (sym rest) (together _ _ (ap not others.1) old.1)
        | false ↦ λ is. together _ _ (ap not (any_keyed (same_text t.key) ts (other_way k t.key others.0) (not_that _ old.0))) (differ_keyed ts later.1 others.1 old.1)
      ] refl

-- ---- the file

-- what is said of a supplier's other key, is said
key_passed : (x y : Bool) → ((refuse NoSupplier when not x) >> (refuse KeyTaken when y)) ≡ Ok tt → (x ≡ true) × (y ≡ false)
unfolding ◌>>◌ refuse◌when◌
key_passed false y h = cc
key_passed true true h = cc
key_passed true false h = (refl, refl)

-- what a cluster file may say, it may say with a key that nobody has
new_key-formed : (f : ClusterFile) (s : Name) (k : Key) → IsWellFormed f → IsTrue (is_key k) → list_any (same_text k) (keys_of f.cluster.integrator f.suppliers) ≡ false → IsWellFormed (with_key f s k)
unfolding is_cluster
new_key-formed f s k form formed new =
    let others = or_parts _ _ new in
    let old = parts _ _ form.cluster in
    let order = parts _ _ old.0 in
    let differ = parts _ _ old.1 in
    let old_keys = parts _ _ form.keys in
    record {
      params = form.params;
      cluster = together _ _
          (together _ _ (ap (λ n. nat_le n MAX_SUPPLIERS) (length-map f.suppliers (keyed s k)) ∙ order.0) (rise_stays s k f.suppliers ∙ order.1))
          (together _ _
          (ap not (any_keyed s k (same_text f.cluster.integrator) f.suppliers (other_way k f.cluster.integrator others.0) (not_that _ differ.0)))
          (differ_keyed s k f.suppliers order.1 others.1 differ.1));
      names = names_stay s k f.suppliers ∙ form.names;
      keys = together _ _ old_keys.0 (keys_formed s k f.suppliers formed old_keys.1);
    }

-- so with one that is not refused
pub with_key-formed : (f : ClusterFile) (s : Name) (k : Key) → IsWellFormed f → IsTrue (is_key k) → admits_key f s k ≡ Ok tt → IsWellFormed (with_key f s k)
unfolding admits_key
with_key-formed f s k form formed admitted = new_key-formed f s k form formed (key_passed _ _ admitted).1

-- ---- the book's rows

module _ (s : Name) (k : Key) where
  -- where the name is found, it is not before the first
  pub not_before : (e : Row) (es : List Row) → T (below_all R e.0 es) → R s e.0 ≡ Less → is_some (find R s es) ≡ true → ⊥
  unfolding names
  not_before e es above before found =
      true≢false (sym found ∙ ap is_some (none_above {V = Key} names (λ _ _. true) s s es (tied_itself nat_list_cmp_total s) (further s e.0 before es above)))

  -- the list of the rows with this key
  pub listed_key : (es : List Row) → T (is_sorted R es) → is_some (find R s es) ≡ true → map listed (put R s k es) ≡ map (keyed s k) (map listed es)
  listed_key [] rise found = cc
  listed_key (e ∷ es) rise found =
      elim (R s e.0) as (λ r. R s e.0 ≡ r → is_some (cond (is_eq r) (Some e.1) (find R s es)) ≡ true →
      map listed (by_order r ((s, k) ∷ e ∷ es) ((e.0, k) ∷ es) (e ∷ put R s k es)) ≡ cond (is_eq r) (record (listed e) { key = k }) (listed e) ∷ map (keyed s k) (map listed es)) [
        | Less ↦ λ is there. absurd (not_before e es (first _ _ rise) is there)
        | Equal ↦ λ is there.
            let later = parts _ _ (rises (e ∷ es) rise) in
            let same : s ≡ e.0 = same_text-is s e.0 (sym (is_eq-slice_cmp s e.0) ∙ ap is_eq is) in
            ap (λ ts. record (listed e) { key = k } ∷ ts) (sym (unkeyed s k (map listed es) (subst (λ n. IsTrue (is_before n (map listed es))) (sym same) later.0) later.1))
        | Greater ↦ λ is there. ap (λ ts. listed e ∷ ts) (listed_key es (second _ _ rise) there)
      ] refl found
      ∙ ap (λ b. cond b (record (listed e) { key = k }) (listed e) ∷ map (keyed s k) (map listed es)) (is_eq-slice_cmp s e.0)

-- a supplier has another key in the book as in the list
pub file_of-keyed : (c : Cluster) (b : Book) (s : Name) (k : Key) → contains b.suppliers s ≡ true → file_of c (record b { suppliers = insert b.suppliers s k }) ≡ with_key (file_of c b) s k
unfolding insert get names
file_of-keyed c b s k there = ap (λ ss. record (file_of c b) { suppliers = ss }) (listed_key s k b.suppliers.rows b.suppliers.sorted there)

-- what a cluster file may say, it may say with this key of a supplier that is there
pub keyed-well_formed : (c : Cluster) (b : Book) (s : Name) (k : Key) → IsWellFormed (file_of c b) → IsTrue (is_key k) →
    IsTrue (contains b.suppliers s) → has_key c b k ≡ false → IsWellFormed (file_of c (record b { suppliers = insert b.suppliers s k }))
unfolding has_key
keyed-well_formed c b s k form formed there new =
    subst IsWellFormed (sym (file_of-keyed c b s k there)) (new_key-formed (file_of c b) s k form formed new)

-- and is refused as by the list
pub set_key-listed : (c : Cluster) (b : Book) (s : Name) (k : Key) → set_key c b s k ≡ (admits_key (file_of c b) s k >> Ok (record b { suppliers = insert b.suppliers s k }))
unfolding set_key admits_key has_key ◌>>◌ refuse◌when◌
set_key-listed c b s k =
    rw (contains-listed b s)
    (by_tests (contains b.suppliers s) (list_any (same_text k) (keys_of c.integrator (map listed b.suppliers.rows))))
  where
    by_tests : (x y : Bool) → ((refuse NoSupplier when not x) >> ((refuse KeyTaken when y) >> Ok (record b { suppliers = insert b.suppliers s k })))
        ≡ (((refuse NoSupplier when not x) >> (refuse KeyTaken when y)) >> Ok (record b { suppliers = insert b.suppliers s k }))
    by_tests false y = refl
    by_tests true true = refl
    by_tests true false = refl

-- where it is not refused, the supplier is there
pub listed_is_there : (c : Cluster) (b : Book) (s : Name) (k : Key) → admits_key (file_of c b) s k ≡ Ok tt → contains b.suppliers s ≡ true
unfolding admits_key
listed_is_there c b s k admitted = sym (contains-listed b s) ∙ (key_passed _ _ admitted).0
