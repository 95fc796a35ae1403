-- The suppliers of a book as a cluster file lists them, and after one more joined.
use Rattle.std.proofs.Common.{◌≡◌, ◌<◌, ◌≤◌, ◌+◌, ℕ, Bool, true, false, cond, not, ◌&&◌, ◌||◌, List, [], ◌∷◌, map, length, nat_le, Option, Some, None, is_some, IsTrue, refl, sym, ap, subst, ◌∙◌, Ordering, Less, Equal, Greater, le-leb, leb-false, true≢false, arith, inl, inr, Ok}
use Rattle.std.specs.Prelude.{T}
use Rattle.std.specs.List.{list_all, list_any}
use Rattle.std.specs.Ordering.{nat_cmp, is_lt, is_eq}
use Rattle.std.specs.Cmp.Lexicographic.{slice_cmp, nat_list_cmp_total}
use Rattle.std.specs.FinMap.Entries.{put, find, below_all, is_sorted, by_order, length-put}
use Rattle.std.proofs.lemmas.Bool.{cases_Bool, or_parts}
use Rattle.std.proofs.lemmas.List.{length-map}
use Rattle.fr_base.specs.TableRows.{both, first, second}
use Rattle.fr_base.specs.Keys.{names}
use Rattle.fr_base.specs.Names.{is_name, is_key, same_text}
use Rattle.fr_base.specs.Cluster.{Cluster, ClusterFile, is_before, names_rise, keys_differ, keys_of, is_cluster, IsWellFormed}
use Rattle.fr_base.specs.Book.{Book, suppliers_of, opening, listed, file_of}
use Rattle.fr_base.specs.Tables.{get, contains, len, insert}
use Rattle.fr_base.specs.Step.{has_key, add_supplier}
use Rattle.fr_base.specs.Joining.{with_supplier, joined, admits_supplier}
use Rattle.fr_base.specs.Refusing.{◌>>◌, refuse◌when◌}
use Rattle.fr_base.specs.declared.refusal.Refusal.TheVariants.{Exists, KeyTaken, Limit}
use Rattle.std.proofs.lemmas.Map.Text.{is_eq-slice_cmp}
use Rattle.fr_base.specs.declared.limits.TheConstants.{MAX_SUPPLIERS}
use Rattle.fr_base.specs.declared.config.Supplier.{Supplier}
use Rattle.fr_base.specs.declared.key.Key.{Key}
use Rattle.fr_base.specs.declared.name.Name.{Name}
use Rattle.fr_base.proofs.TableLaws.{rows-from_rows}
use Rattle.fr_base.proofs.SoundRows.{same_text-is}
use Rattle.std.proofs.lemmas.Slice.Eq.{bytes_eq-Decides}

-- a row of the book's suppliers
abbrev pub row : Supplier → Name × Key
row s = (s.name, s.key)

abbrev pub Row : Type 0
Row = Name × Key

pub parts : (a b : Bool) → IsTrue (a && b) → IsTrue a × IsTrue b
parts true b h = (refl, h)
parts false b h = cc

pub together : (a b : Bool) → IsTrue a → IsTrue b → IsTrue (a && b)
together true b h k = k
together false b h k = cc

pub is_less : (r : Ordering) → IsTrue (is_lt r) → r ≡ Less
is_less Less h = refl
is_less Equal h = cc
is_less Greater h = cc

holds : (b : Bool) → IsTrue b → T b
holds true h = tt
holds false h = cc

held : (b : Bool) → T b → IsTrue b
held true h = refl
held false h = absurd h

less_holds : (r : Ordering) → T (is_lt r) → r ≡ Less
less_holds Less h = refl
less_holds Equal h = absurd h
less_holds Greater h = absurd h

-- ---- the file's list and the book's rows

-- what is before a name is before all that the name is before
pub further : (n m : Name) → slice_cmp nat_cmp n m ≡ Less → (es : List Row) → T (below_all (slice_cmp nat_cmp) m es) → T (below_all (slice_cmp nat_cmp) n es)
further n m less [] above = tt
further n m less (e ∷ es) above =
    let step : slice_cmp nat_cmp n e.0 ≡ Less = nat_list_cmp_total.trans n m e.0 less (less_holds _ (first _ _ above)) in
    both _ _ (holds _ (ap is_lt step)) (further n m less es (second _ _ above))

-- a name before the first of names that rise is before them all
before_all : (n : Name) (ss : List Supplier) → IsTrue (is_before n ss) → IsTrue (names_rise ss) → T (below_all (slice_cmp nat_cmp) n (map row ss))
before_all n [] h rise = tt
before_all n (s ∷ ss) h rise =
    let later = parts _ _ rise in
    both _ _ (holds _ h) (further n s.name (is_less _ h) (map row ss) (before_all s.name ss later.0 later.1))

sorted : (ss : List Supplier) → IsTrue (names_rise ss) → T (is_sorted (slice_cmp nat_cmp) (map row ss))
sorted [] rise = tt
sorted (s ∷ ss) rise =
    let later = parts _ _ rise in
    both _ _ (before_all s.name ss later.0 later.1) (sorted ss later.1)

-- rows in order have names that rise
pub rises : (es : List Row) → T (is_sorted (slice_cmp nat_cmp) es) → IsTrue (names_rise (map listed es))
rises [] h = refl
rises (e ∷ []) h = refl
rises (e ∷ d ∷ es) h = together _ _ (held _ (first _ _ (first _ _ h))) (rises (d ∷ es) (second _ _ h))

relisted : (ss : List Supplier) → map listed (map row ss) ≡ ss
relisted [] = refl
relisted (s ∷ ss) = ap (λ rest. s ∷ rest) (relisted ss)

-- the opening book's suppliers are the file's, in its order
pub supplier_rows : (f : ClusterFile) → IsTrue (is_cluster f.cluster.integrator f.suppliers) → (suppliers_of f).rows ≡ map row f.suppliers
unfolding is_cluster suppliers_of names
supplier_rows f h = rows-from_rows names (map row f.suppliers) (sorted f.suppliers (parts _ _ (parts _ _ h).0).1)

-- so the opening book has what the file says
pub file_of-opening : (f : ClusterFile) → IsTrue (is_cluster f.cluster.integrator f.suppliers) → file_of f.cluster (opening f) ≡ f
unfolding opening
file_of-opening f h = ap (λ ss. record f { suppliers = ss }) (ap (map listed) (supplier_rows f h) ∙ relisted f.suppliers)

-- ---- one more joined

abbrev pub R : Name → Name → Ordering
R = slice_cmp nat_cmp

-- the keys of some rows
abbrev pub keys : List Row → List Key
keys es = map (λ s. s.key) (map listed es)

pub other_way : (a b : List ℕ) → same_text a b ≡ false → same_text b a ≡ false
other_way a b h = elim (cases_Bool (same_text b a)) [
  | inl same ↦ absurd (true≢false (sym ((bytes_eq-Decides a b).1 (sym (same_text-is b a same))) ∙ h))
  | inr other ↦ other
]

module _ (n : Name) (k : Key) where
  -- Where the name is not found among rows, it is neither the first row's nor found among the others.
  later : {A : Type 0} (r : Ordering) (v : A) (o : Option A) → cond (is_eq r) (Some v) o ≡ None → (r ≡ Equal → ⊥) × (o ≡ None)
  later Less v o h = (λ e. cc, h)
  later Equal v o h = cc
  later Greater v o h = (λ e. cc, h)

  any_swap : (a b c : Bool) → (a || (b || c)) ≡ (b || (a || c))
  any_swap true true c = refl
  any_swap true false c = refl
  any_swap false b c = refl

  all_swap : (a b c : Bool) → (a && (b && c)) ≡ (b && (a && c))
  all_swap true true c = refl
  all_swap false true c = refl
  all_swap true false c = refl
  all_swap false false c = refl

  -- a key among those after it joined is its own or was there before
  pub any_put : (p : Key → Bool) (es : List Row) → find R n es ≡ None → list_any p (keys (put R n k es)) ≡ (p k || list_any p (keys es))
  any_put p [] free = refl
  any_put p (e ∷ es) free =
      let apart = later (R n e.0) e.1 (find R n es) free in
      elim (R n e.0) as (λ r. (r ≡ Equal → ⊥) → list_any p (keys (by_order r ((n, k) ∷ e ∷ es) ((e.0, k) ∷ es) (e ∷ put R n k es))) ≡ (p k || (p e.1 || list_any p (keys es)))) [
        | Less ↦ λ _. refl
        | Equal ↦ λ no. absurd (no refl)
        | Greater ↦ λ _. ap (λ b. p e.1 || b) (any_put p es apart.1) ∙ any_swap (p e.1) (p k) (list_any p (keys es))
      ] apart.0

  -- what all pass, all pass after one that passes joined
  pub all_put : (p : Supplier → Bool) (es : List Row) → find R n es ≡ None → list_all p (map listed (put R n k es)) ≡ (p (listed (n, k)) && list_all p (map listed es))
  all_put p [] free = refl
  all_put p (e ∷ es) free =
      let apart = later (R n e.0) e.1 (find R n es) free in
      elim (R n e.0) as (λ r. (r ≡ Equal → ⊥) → list_all p (map listed (by_order r ((n, k) ∷ e ∷ es) ((e.0, k) ∷ es) (e ∷ put R n k es))) ≡ (p (listed (n, k)) && (p (listed e) && list_all p (map listed es)))) [
        | Less ↦ λ _. refl
        | Equal ↦ λ no. absurd (no refl)
        | Greater ↦ λ _. ap (λ b. p (listed e) && b) (all_put p es apart.1) ∙ all_swap (p (listed e)) (p (listed (n, k))) (list_all p (map listed es))
      ] apart.0

  -- keys that differ still do
  differ_put : (es : List Row) → find R n es ≡ None → list_any (same_text k) (keys es) ≡ false → IsTrue (keys_differ (keys es)) → IsTrue (keys_differ (keys (put R n k es)))
  differ_put [] free new differ = refl
  differ_put (e ∷ es) free new differ =
      let apart = later (R n e.0) e.1 (find R n es) free in
      let others = or_parts _ _ new in
      let old = parts _ _ differ in
      elim (R n e.0) as (λ r. (r ≡ Equal → ⊥) → IsTrue (keys_differ (keys (by_order r ((n, k) ∷ e ∷ es) ((e.0, k) ∷ es) (e ∷ put R n k es))))) [
        | Less ↦ λ _. together _ _ (ap not new) differ
        | Equal ↦ λ no. absurd (no refl)
        | Greater ↦ λ _. together _ _ (ap not (any_put (same_text e.1) es apart.1 ∙ ap (λ b. b || list_any (same_text e.1) (keys es)) (other_way k e.1 others.0)) ∙ old.0) (differ_put es apart.1 others.1 old.1)
      ] apart.0

none_of : {A : Type 0} (o : Option A) → is_some o ≡ false → o ≡ None
none_of None h = refl
none_of (Some x) h = cc

keys-formed : (es : List Row) → list_all is_key (keys es) ≡ list_all (λ s. is_key s.key) (map listed es)
keys-formed [] = refl
keys-formed (e ∷ es) = ap (λ b. is_key e.1 && b) (keys-formed es)

-- what a cluster file may say, it may say with one supplier more
pub joined-well_formed : (c : Cluster) (b : Book) (s : Name) (k : Key) → IsWellFormed (file_of c b) → IsTrue (is_name s) → IsTrue (is_key k) →
    contains b.suppliers s ≡ false → has_key c b k ≡ false → len b.suppliers < MAX_SUPPLIERS → IsWellFormed (file_of c (record b { suppliers = insert b.suppliers s k }))
unfolding is_cluster has_key insert get len names
joined-well_formed c b s k form named formed free new room =
    let es = b.suppliers.rows in
    let none : find R s es ≡ None = none_of _ free in
    let others = or_parts _ _ new in
    let old = parts _ _ form.cluster in
    let differ = parts _ _ old.1 in
    let old_keys = parts _ _ form.keys in
    let longer : length (put R s k es) ≡ length es + 1 = length-put R nat_list_cmp_total s k es b.suppliers.sorted ∙ ap (λ t. cond t (length es) (length es + 1)) free in
    record {
      params = form.params;
      cluster = together _ _
          (together _ _
          (le-leb _ _ (subst (λ m. m ≤ MAX_SUPPLIERS) (sym (length-map (put R s k es) listed ∙ longer)) (omega (arith, room))))
          (rises (put R s k es) (insert b.suppliers s k).sorted))
          (together _ _
          (ap not (any_put s k (same_text c.integrator) es none ∙ ap (λ t. t || list_any (same_text c.integrator) (keys es)) (other_way k c.integrator others.0)) ∙ differ.0)
          (differ_put s k es none others.1 differ.1));
      names = all_put s k (λ t. is_name t.name) es none ∙ together _ _ named form.names;
      keys = together _ _ old_keys.0 (keys-formed (put R s k es) ∙ all_put s k (λ t. is_key t.key) es none ∙ together _ _ formed (sym (keys-formed es) ∙ old_keys.1));
    }

-- ---- the same of a cluster file's list

listed_put : (s : Name) (k : Key) (es : List Row) → find R s es ≡ None → map listed (put R s k es) ≡ with_supplier (listed (s, k)) (map listed es)
listed_put s k [] free = refl
listed_put s k (e ∷ es) free =
    let apart = later s k (R s e.0) e.1 (find R s es) free in
    elim (R s e.0) as (λ r. (r ≡ Equal → ⊥) → map listed (by_order r ((s, k) ∷ e ∷ es) ((e.0, k) ∷ es) (e ∷ put R s k es)) ≡ cond (is_lt r) (listed (s, k) ∷ listed e ∷ map listed es) (listed e ∷ with_supplier (listed (s, k)) (map listed es))) [
      | Less ↦ λ _. refl
      | Equal ↦ λ no. absurd (no refl)
      | Greater ↦ λ _. ap (λ ts. listed e ∷ ts) (listed_put s k es apart.1)
    ] apart.0

-- a supplier is there if one of the list has its name
pub named-row : (s : Name) (es : List Row) → list_any (λ t. same_text s t.name) (map listed es) ≡ is_some (find R s es)
named-row s [] = refl
named-row s (e ∷ es) =
    elim (same_text s e.0) as (λ b. (b || list_any (λ t. same_text s t.name) (map listed es)) ≡ is_some (cond b (Some e.1) (find R s es))) [
      | true ↦ refl
      | false ↦ named-row s es
    ] ∙ ap (λ b. is_some (cond b (Some e.1) (find R s es))) (sym (is_eq-slice_cmp s e.0))

pub contains-listed : (b : Book) (s : Name) → list_any (λ t. same_text s t.name) (map listed b.suppliers.rows) ≡ contains b.suppliers s
unfolding get names
contains-listed b s = named-row s b.suppliers.rows

-- a supplier joins the book as it joins the list
pub file_of-joined : (c : Cluster) (b : Book) (s : Name) (k : Key) → contains b.suppliers s ≡ false → file_of c (record b { suppliers = insert b.suppliers s k }) ≡ joined (file_of c b) s k
unfolding insert get names
file_of-joined c b s k free = ap (λ ss. record (file_of c b) { suppliers = ss }) (listed_put s k b.suppliers.rows (none_of _ free))

-- and is refused as by the list
pub add_supplier-listed : (c : Cluster) (b : Book) (s : Name) (k : Key) → add_supplier c b s k ≡ (admits_supplier (file_of c b) s k >> Ok (record b { suppliers = insert b.suppliers s k }))
unfolding add_supplier admits_supplier has_key len ◌>>◌ refuse◌when◌
add_supplier-listed c b s k =
    rw (contains-listed b s, length-map b.suppliers.rows listed)
    (by_tests (contains b.suppliers s) (list_any (same_text k) (keys_of c.integrator (map listed b.suppliers.rows))) (nat_le MAX_SUPPLIERS (length b.suppliers.rows)))
  where
    by_tests : (x y z : Bool) → ((refuse Exists when x) >> ((refuse KeyTaken when y) >> ((refuse Limit when z) >> Ok (record b { suppliers = insert b.suppliers s k }))))
        ≡ (((refuse Exists when x) >> ((refuse KeyTaken when y) >> (refuse Limit when z))) >> Ok (record b { suppliers = insert b.suppliers s k }))
    by_tests true y z = refl
    by_tests false true z = refl
    by_tests false false true = refl
    by_tests false false false = refl

-- what is said, is said
passed : (x y z : Bool) → ((refuse Exists when x) >> ((refuse KeyTaken when y) >> (refuse Limit when z))) ≡ Ok tt → (x ≡ false) × (y ≡ false) × (z ≡ false)
unfolding ◌>>◌ refuse◌when◌
passed true y z h = cc
passed false true z h = cc
passed false false true h = cc
passed false false false h = (refl, refl, refl)

-- what a cluster file may say, it may say with one more that is not refused
pub joined_formed : (f : ClusterFile) (s : Name) (k : Key) → IsWellFormed f → IsTrue (is_name s) → IsTrue (is_key k) → admits_supplier f s k ≡ Ok tt → IsWellFormed (joined f s k)
unfolding admits_supplier has_key len opening
joined_formed f s k form named formed admitted =
    let same = file_of-opening f form.cluster in
    let tests = passed _ _ _ admitted in
    let b : Book = opening f in
    let list : map listed b.suppliers.rows ≡ f.suppliers = ap (λ (g : ClusterFile). g.suppliers) same in
    let free : contains b.suppliers s ≡ false = sym (contains-listed b s) ∙ ap (list_any (λ t. same_text s t.name)) list ∙ tests.0 in
    subst (λ g. IsWellFormed (joined g s k)) same
    (subst IsWellFormed (file_of-joined f.cluster b s k free)
    (joined-well_formed f.cluster b s k (subst IsWellFormed (sym same) form) named formed free
    (ap (λ ss. list_any (same_text k) (keys_of f.cluster.integrator ss)) list ∙ tests.1)
    (leb-false _ _ (ap (nat_le MAX_SUPPLIERS) (sym (length-map b.suppliers.rows listed) ∙ ap length list) ∙ tests.2))))

-- where it is not refused, nobody has the name
pub listed_is_free : (c : Cluster) (b : Book) (s : Name) (k : Key) → admits_supplier (file_of c b) s k ≡ Ok tt → get b.suppliers s ≡ None
unfolding admits_supplier
listed_is_free c b s k admitted = none_of (get b.suppliers s) (sym (contains-listed b s) ∙ (passed _ _ _ admitted).0)
