-- A supplier's rows of a book, and after a change of the book.
use Rattle.std.proofs.Common.{◌≡◌, false, Option, Some, None, is_some, refl, ap, ◌∙◌}
use Rattle.std.specs.Option.{option_map, option_and_then}
use Rattle.fr_base.specs.Tables.{get, contains, len, insert, each}
use Rattle.fr_base.specs.Keys.{names, owned, channel_slots}
use Rattle.fr_base.specs.Names.{same_text}
use Rattle.fr_base.specs.Book.{Variant, Kept, Book, held_by, is_of, own}
use Rattle.fr_base.specs.Step.{own_rows, with_variant, frame_at}
use Rattle.fr_base.specs.Alone.{own_variant, rows_of}
use Rattle.fr_base.specs.declared.key.Key.{Key}
use Rattle.fr_base.specs.declared.name.Name.{Name}
use Rattle.fr_base.specs.declared.params.Params.{Params}
use Rattle.fr_base.proofs.TableLaws.{insert-same}
use Rattle.fr_base.proofs.SoundTables.{only-insert, only-insert_other}
use Rattle.fr_base.proofs.AloneTables.{get-each, len-each, each-insert, only-only, get-own}
use Rattle.fr_base.proofs.AloneCells.{same_text-itself}

module _ (s : Name) where
  -- ---- a look-up

  pub rows_of-variant : (b : Book) (v : Name) → get (rows_of s b).variants v ≡ option_map (own_variant s) (get b.variants v)
  unfolding rows_of
  rows_of-variant b v = get-each names (own_variant s) b.variants v

  is_some-map : (x : Option Variant) → is_some (option_map (own_variant s) x) ≡ is_some x
  is_some-map None = refl
  is_some-map (Some x) = refl

  pub rows_of-has : (b : Book) (v : Name) → contains (rows_of s b).variants v ≡ contains b.variants v
  rows_of-has b v = ap is_some (rows_of-variant b v) ∙ is_some-map (get b.variants v)

  pub rows_of-count : (b : Book) → len (rows_of s b).variants ≡ len b.variants
  unfolding rows_of
  rows_of-count b = len-each names (own_variant s) b.variants

  pub rows_of-supplier : (b : Book) → contains (rows_of s b).suppliers s ≡ contains b.suppliers s
  unfolding rows_of
  rows_of-supplier b = ap is_some (get-own names (λ t. same_text t s) b.suppliers s (same_text-itself s))

  pub rows_of-node : (b : Book) (n : Name) → contains (rows_of s b).nodes (s, n) ≡ contains b.nodes (s, n)
  unfolding rows_of
  rows_of-node b n = ap is_some (get-own owned (is_of s) b.nodes (s, n) (same_text-itself s))

  pub rows_of-nodes : (b : Book) → own s (rows_of s b).nodes ≡ own s b.nodes
  unfolding rows_of
  rows_of-nodes b = only-only owned (λ k _. is_of s k) b.nodes

  pub rows_of-import : (b : Book) (l : Name) → get (rows_of s b).imports (s, l) ≡ get b.imports (s, l)
  unfolding rows_of
  rows_of-import b l = get-own owned (is_of s) b.imports (s, l) (same_text-itself s)

  pub rows_of-imports : (b : Book) → own s (rows_of s b).imports ≡ own s b.imports
  unfolding rows_of
  rows_of-imports b = only-only owned (λ k _. is_of s k) b.imports

  frame-own : (f : Name) (o : Option Variant) → option_and_then (λ (x : Variant). get x.frames (s, f)) (option_map (own_variant s) o) ≡ option_and_then (λ (x : Variant). get x.frames (s, f)) o
  unfolding own_variant
  frame-own f None = refl
  frame-own f (Some x) = get-own owned (is_of s) x.frames (s, f) (same_text-itself s)

  pub rows_of-frame : (b : Book) (v f : Name) → frame_at (rows_of s b) s v f ≡ frame_at b s v f
  rows_of-frame b v f = ap (option_and_then (λ (x : Variant). get x.frames (s, f))) (rows_of-variant b v) ∙ frame-own f (get b.variants v)

  -- the supplier's own of its rows are its own
  pub own_rows-own : (p : Params) (b : Book) (x : Variant) → own_rows p (rows_of s b) s (own_variant s x) ≡ own_rows p b s x
  unfolding own_rows own_variant
  own_rows-own p b x = λ i. record {
    params = p;
    supplier = s;
    nodes = rows_of-nodes b i;
    grants = only-only channel_slots (λ _ h. held_by s (Some h)) x.grants i;
    frames = only-only owned (λ k _. is_of s k) x.frames i;
  }

  -- ---- a book after a change

  pub rows_of-with : (b : Book) (v : Name) (x : Variant) → rows_of s (with_variant b v x) ≡ with_variant (rows_of s b) v (own_variant s x)
  unfolding rows_of
  rows_of-with b v x = ap (λ t. record (rows_of s b) { variants = t }) (each-insert names (own_variant s) b.variants v x)

  -- a variant of which the supplier's rows stay
  pub rows_of-still : (b : Book) (v : Name) (x y : Variant) → get b.variants v ≡ Some x → own_variant s y ≡ own_variant s x → rows_of s (with_variant b v y) ≡ rows_of s b
  unfolding rows_of
  rows_of-still b v x y there same =
      rows_of-with b v y ∙ ap (with_variant (rows_of s b) v) same
      ∙ ap (λ t. record (rows_of s b) { variants = t }) (insert-same (each (own_variant s) b.variants) v (own_variant s x) (get-each names (own_variant s) b.variants v ∙ ap (option_map (own_variant s)) there))

  pub rows_of-more_suppliers : (b : Book) (k : Key) → rows_of s (record b { suppliers = insert b.suppliers s k }) ≡ record (rows_of s b) { suppliers = insert (rows_of s b).suppliers s k }
  unfolding rows_of
  rows_of-more_suppliers b k = ap (λ t. record (rows_of s b) { suppliers = t }) (only-insert names (λ t. same_text t s) b.suppliers s k (same_text-itself s))

  pub rows_of-more_suppliers_other : (b : Book) (t : Name) (k : Key) → same_text t s ≡ false → rows_of s (record b { suppliers = insert b.suppliers t k }) ≡ rows_of s b
  unfolding rows_of
  rows_of-more_suppliers_other b t k other = ap (λ u. record (rows_of s b) { suppliers = u }) (only-insert_other names (λ t. same_text t s) b.suppliers t k other)

  pub rows_of-more_nodes : (b : Book) (n : Name) → rows_of s (record b { nodes = insert b.nodes (s, n) tt }) ≡ record (rows_of s b) { nodes = insert (rows_of s b).nodes (s, n) tt }
  unfolding rows_of
  rows_of-more_nodes b n = ap (λ t. record (rows_of s b) { nodes = t }) (only-insert owned (is_of s) b.nodes (s, n) tt (same_text-itself s))

  pub rows_of-more_nodes_other : (b : Book) (t n : Name) → same_text t s ≡ false → rows_of s (record b { nodes = insert b.nodes (t, n) tt }) ≡ rows_of s b
  unfolding rows_of
  rows_of-more_nodes_other b t n other = ap (λ u. record (rows_of s b) { nodes = u }) (only-insert_other owned (is_of s) b.nodes (t, n) tt other)

  pub rows_of-more_imports : (b : Book) (l : Name) (one : Kept) → rows_of s (record b { imports = insert b.imports (s, l) one }) ≡ record (rows_of s b) { imports = insert (rows_of s b).imports (s, l) one }
  unfolding rows_of
  rows_of-more_imports b l one = ap (λ t. record (rows_of s b) { imports = t }) (only-insert owned (is_of s) b.imports (s, l) one (same_text-itself s))

  pub rows_of-more_imports_other : (b : Book) (t l : Name) (one : Kept) → same_text t s ≡ false → rows_of s (record b { imports = insert b.imports (t, l) one }) ≡ rows_of s b
  unfolding rows_of
  rows_of-more_imports_other b t l one other = ap (λ u. record (rows_of s b) { imports = u }) (only-insert_other owned (is_of s) b.imports (t, l) one other)
