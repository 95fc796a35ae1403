-- Table: rows in the order of their keys, no two rows with one key. What stands at a key, a row put in, a row taken
-- out, the rows that pass a test.
use Rattle.std.specs.Prelude.{ℕ, Bool, not, T, List, [], ◌∷◌, map, length, filter, Option, Some, None, is_some}
use Rattle.std.specs.declared.cmp.Ordering.{Ordering}
use Rattle.std.specs.Ordering.{eq_by_cmp}
use Rattle.std.specs.Cmp.{IsTotalOrder}
use Rattle.std.specs.FinMap.{IsAntisymmetric}
use Rattle.std.specs.FinMap.Entries.{put, find, is_sorted, is_sorted-put}
use Rattle.fr_base.specs.TableRows.{is_sorted-filter, is_sorted-map}

-- an order of keys, in which only equal keys tie
pub record Order (K : Type 0) : Type 0 where
  pub compare : K → K → Ordering
  pub total : IsTotalOrder compare
  pub exact : IsAntisymmetric compare

-- the rows of a table, in the order of their keys
pub record Table {K : Type 0} (o : Order K) (V : Type 0) : Type 0 where
  pub rows : List (K × V)
  pub sorted : T (is_sorted o.compare rows)

-- no rows
unfoldable pub empty : {K V : Type 0} {o : Order K} → Table o V
empty = record { rows = []; sorted = tt }

-- what stands at a key
unfoldable pub get : {K V : Type 0} {o : Order K} → Table o V → K → Option V
get {o = o} t k = find o.compare k t.rows

-- whether something stands at a key
abbrev pub contains : {K V : Type 0} {o : Order K} → Table o V → K → Bool
contains t k = is_some (get t k)

-- how many rows there are
unfoldable pub len : {K V : Type 0} {o : Order K} → Table o V → ℕ
len t = length t.rows

-- the table with this value at a key
unfoldable pub insert : {K V : Type 0} {o : Order K} → Table o V → K → V → Table o V
insert {o = o} t k v = record { rows = put o.compare k v t.rows; sorted = is_sorted-put o.compare o.total k v t.rows t.sorted }

-- the rows whose key and value pass a test
unfoldable pub only : {K V : Type 0} {o : Order K} → (K → V → Bool) → Table o V → Table o V
only {o = o} p t = record { rows = filter (λ e. p e.0 e.1) t.rows; sorted = is_sorted-filter o.compare (λ e. p e.0 e.1) t.rows t.sorted }

-- the table with each value changed by the function
unfoldable pub each : {K V W : Type 0} {o : Order K} → (V → W) → Table o V → Table o W
each {o = o} f t = record { rows = map (λ e. (e.0, f e.1)) t.rows; sorted = is_sorted-map o.compare f t.rows t.sorted }

-- the table of rows in any order; at a key that stands twice, the first row counts
unfoldable pub from_rows : {K V : Type 0} {o : Order K} → List (K × V) → Table o V
unfolding empty
from_rows [] = empty
from_rows (e ∷ es) = insert (from_rows es) e.0 e.1

-- the table without the row at a key
unfoldable pub remove : {K V : Type 0} {o : Order K} → Table o V → K → Table o V
remove {o = o} t k = only (λ j _. not (eq_by_cmp o.compare k j)) t

-- the fate of a row: it is now this value, or it is gone
pub data Fate (V : Type 0) : Type 0 where
  Becomes : V → Fate V
  Gone : Fate V

-- what stands where this became of it
abbrev pub left_by : {V : Type 0} → Fate V → Option V
left_by (Becomes v) = Some v
left_by Gone = None

-- the table where the row at a key had this fate
unfoldable pub settle : {K V : Type 0} {o : Order K} → Table o V → K → Fate V → Table o V
settle t k (Becomes v) = insert t k v
settle t k Gone = remove t k
