-- What the tables stand for after an edit.
use Rattle.std.proofs.Common.{◌≡◌, ℕ, None, Some, List, [], ◌∷◌, ◌++◌, map, cond, Ordering, Less, Equal, Greater, true, false, IsTrue, inl, inr, if◌then◌else◌, refl, sym, ap, ap₂, subst, ◌∙◌, IsPermutation}
use Rattle.std.specs.Ordering.{nat_cmp, is_eq}
use Rattle.std.specs.Cmp.Lexicographic.{slice_cmp}
use Rattle.std.specs.FinMap.Entries.{put, find, by_order}
use Rattle.std.proofs.lemmas.List.Sorted.{IsPermutation-refl, IsPermutation-sym, IsPermutation-trans, IsPermutation-cons, IsPermutation-middle, IsPermutation-map, IsPermutation-to_front}
use Rattle.sqlite.specs.State.{State}
use Rattle.fr_base.specs.Tables.{get, contains, insert}
use Rattle.fr_base.specs.Keys.{names, owned}
use Rattle.fr_base.specs.Cluster.{Cluster}
use Rattle.fr_base.specs.Book.{Book, listed}
use Rattle.fr_base.specs.declared.key.Key.{Key}
use Rattle.fr_base.specs.declared.name.Name.{Name}
use Rattle.fr_base.specs.declared.config.Supplier.{Supplier}
use Rattle.fr_base.specs.KeyChanges.{keyed}
use Rattle.fr_base.specs.Names.{same_text}
use Rattle.std.proofs.lemmas.Bool.{cases_Bool}
use Rattle.std.proofs.lemmas.Slice.Eq.{bytes_eq-Decides}
use Rattle.fr_base.proofs.SoundRows.{same_text-is}
use Rattle.fr_base.proofs.SuppliersLaws.{other_way}
use Rattle.fr_base.proofs.KeyLaws.{listed_key}
use Rattle.fr_world.specs.BookEdits.{applied}
use Rattle.fr_world.specs.declared.edit.Edit.TheVariants.{NewSupplier, SetKey, NewNode}
use Rattle.fr_tables.specs.Rows.{SupplierRow, NodeRow}
use Rattle.fr_tables.specs.Filling.{supplier_row}
use Rattle.fr_tables.specs.Tables.{Tables}
use Rattle.fr_tables.specs.Changes.{Changes, tables_of}
use Rattle.fr_tables.specs.Statements.{with_supplier, with_key, is_supplier, keyed_row, with_node}
use Rattle.fr_store.specs.StandsFor.{StandsFor, HoldsRows, node_row}
use Rattle.fr_store.specs.Reading.{Stands}

module _ {K V : Type 0} (R : K → K → Ordering) (k : K) (v : V) where
  -- a row of a new key is one row more
  pub put_new : (es : List (K × V)) → find R k es ≡ None → IsPermutation ((k, v) ∷ es) (put R k v es)
  put_new [] h = IsPermutation-refl ((k, v) ∷ [])
  put_new (e ∷ es) h = by_case (R k e.0) h (put_new es)
    where
      by_case : (r : Ordering) → cond (is_eq r) (Some e.1) (find R k es) ≡ None → (find R k es ≡ None → IsPermutation ((k, v) ∷ es) (put R k v es))
          → IsPermutation ((k, v) ∷ e ∷ es) (by_order r ((k, v) ∷ e ∷ es) ((e.0, v) ∷ es) (e ∷ put R k v es))
      by_case Less h more = IsPermutation-refl _
      by_case Equal h more = absurd cc
      by_case Greater h more = IsPermutation-trans _ _ _ (IsPermutation-sym _ _ (IsPermutation-middle (e ∷ []) (k, v) es)) (IsPermutation-cons e _ _ (more h))

-- rows, and one more at their end
pub one_at_end : {X : Type 0} (row : X) (xs ys : List X) → IsPermutation xs ys → IsPermutation (row ∷ xs) (ys ++ row ∷ [])
one_at_end row xs ys same = IsPermutation-trans _ _ _ (IsPermutation-cons row _ _ same) (IsPermutation-sym _ _ (IsPermutation-to_front ys row))

module _ (s n : Name) where
  abbrev row : NodeRow
  row = record { supplier = s; name = n }

  -- the tables with the node stand for the book with it
  new_node : (t : Tables) (count : ℕ) (b : Book) → HoldsRows t count b → get b.nodes (s, n) ≡ None → HoldsRows (with_node row t) count (applied b (NewNode s n))
  unfolding applied insert get
  new_node t count b h new = record {
    suppliers = h.suppliers;
    nodes = IsPermutation-trans _ _ _ (IsPermutation-sym _ _ (IsPermutation-map node_row _ _ (put_new owned.compare (s, n) tt b.nodes.rows new))) (one_at_end row (map node_row b.nodes.rows) t.nodes h.nodes);
    imports = h.imports;
    stored = h.stored;
    variants = h.variants;
    grants = h.grants;
    frames = h.frames;
    placements = h.placements;
    signals = h.signals;
    dropped = h.dropped;
    each = h.each;
  }

  pub node_applied : (old state : State) → Changes (with_node row) old state → (c : Cluster) (b : Book) → Stands old c b → get b.nodes (s, n) ≡ None
      → Stands state c (applied b (NewNode s n))
  node_applied old state h c b stands new =
      record { has = h.has; for = subst (λ t. StandsFor t c (applied b (NewNode s n))) (sym h.now) (record { heads = stands.for.heads; rows = new_node (tables_of old) c.params.cycles b stands.for.rows new }) }

module _ (s : Name) (key : Key) where
  abbrev joining : SupplierRow
  joining = record { name = s; key = key }

  -- the tables with the supplier stand for the book with it
  new_supplier : (t : Tables) (count : ℕ) (b : Book) → HoldsRows t count b → get b.suppliers s ≡ None → HoldsRows (with_supplier joining t) count (applied b (NewSupplier s key))
  unfolding applied insert get names
  new_supplier t count b h new = record {
    suppliers = IsPermutation-trans _ _ _ (IsPermutation-sym _ _ (IsPermutation-map supplier_row _ _ (IsPermutation-map listed _ _ (put_new (slice_cmp nat_cmp) s key b.suppliers.rows new)))) (one_at_end joining (map supplier_row (map listed b.suppliers.rows)) t.suppliers h.suppliers);
    nodes = h.nodes;
    imports = h.imports;
    stored = h.stored;
    variants = h.variants;
    grants = h.grants;
    frames = h.frames;
    placements = h.placements;
    signals = h.signals;
    dropped = h.dropped;
    each = h.each;
  }

  pub supplier_applied : (old state : State) → Changes (with_supplier joining) old state → (c : Cluster) (b : Book) → Stands old c b → get b.suppliers s ≡ None
      → Stands state c (applied b (NewSupplier s key))
  supplier_applied old state h c b stands new =
      record { has = h.has; for = subst (λ t. StandsFor t c (applied b (NewSupplier s key))) (sym h.now) (record { heads = stands.for.heads; rows = new_supplier (tables_of old) c.params.cycles b stands.for.rows new }) }

-- ---- another key

-- texts are the same either way round
same_either_way : (a b : List ℕ) → same_text a b ≡ same_text b a
same_either_way a b = elim (cases_Bool (same_text a b)) [
  | inl same ↦ same ∙ sym ((bytes_eq-Decides b a).1 (sym (same_text-is a b same)))
  | inr other ↦ other ∙ sym (other_way a b other)
]

module _ (s : Name) (key : Key) where
  -- the row of the supplier with this key
  abbrev turned : SupplierRow → SupplierRow
  turned r = if is_supplier s r then keyed_row key r else r

  turned_row : (t : Supplier) → supplier_row (keyed s key t) ≡ turned (supplier_row t)
  turned_row t =
      ap (λ b. supplier_row (cond b (record t { key = key }) t)) (same_either_way s t.name)
      ∙ elim (same_text t.name s) as (λ b. supplier_row (cond b (record t { key = key }) t) ≡ cond b (keyed_row key (supplier_row t)) (supplier_row t)) [ true ↦ refl | false ↦ refl ]

  turned_rows : (ts : List Supplier) → map supplier_row (map (keyed s key) ts) ≡ map turned (map supplier_row ts)
  turned_rows [] = refl
  turned_rows (t ∷ ts) = ap₂ (λ r rs. r ∷ rs) (turned_row t) (turned_rows ts)

  -- the tables with the supplier's key stand for the book with it
  new_key : (t : Tables) (count : ℕ) (b : Book) → HoldsRows t count b → IsTrue (contains b.suppliers s) → HoldsRows (with_key s key t) count (applied b (SetKey s key))
  unfolding applied insert get names
  new_key t count b h there = record {
    suppliers = subst (λ rows. IsPermutation rows (map turned t.suppliers))
        (sym (ap (map supplier_row) (listed_key s key b.suppliers.rows b.suppliers.sorted there) ∙ turned_rows (map listed b.suppliers.rows)))
        (IsPermutation-map turned _ _ h.suppliers);
    nodes = h.nodes;
    imports = h.imports;
    stored = h.stored;
    variants = h.variants;
    grants = h.grants;
    frames = h.frames;
    placements = h.placements;
    signals = h.signals;
    dropped = h.dropped;
    each = h.each;
  }

  pub key_applied : (old state : State) → Changes (with_key s key) old state → (c : Cluster) (b : Book) → Stands old c b → IsTrue (contains b.suppliers s)
      → Stands state c (applied b (SetKey s key))
  key_applied old state h c b stands there =
      record { has = h.has; for = subst (λ t. StandsFor t c (applied b (SetKey s key))) (sym h.now) (record { heads = stands.for.heads; rows = new_key (tables_of old) c.params.cycles b stands.for.rows there }) }
