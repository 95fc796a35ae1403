-- Flat: a variant without a parent, filled with the rows of another one, a supplier after the other. Which
-- names a supplier has in a variant. So far a part of the frames is there, and each as the other has it.
use Rattle.std.specs.Prelude.{◌≡◌, ◌||◌, ◌&&◌, ℕ, Bool, false, not, List, Some, None, Result, OnOk, IsTrue, bytes_eq}
use Rattle.std.specs.List.{list_any}
use Rattle.std.specs.Ordering.{nat_cmp}
use Rattle.std.specs.BTreeMap.{is_at}
use Rattle.std.specs.Cmp.Lexicographic.{slice_cmp}
use Rattle.sqlite.specs.Order.{Row}
use Rattle.sqlite.specs.State.{State, HasCleanDisk}
use Rattle.fr_base.specs.Tables.{Table, empty, get, contains}
use Rattle.fr_base.specs.Keys.{owned}
use Rattle.fr_base.specs.Cluster.{Cluster}
use Rattle.fr_base.specs.Book.{Frame, Variant, Book}
use Rattle.fr_base.specs.Step.{with_variant}
use Rattle.fr_base.specs.declared.name.Name.{Name}
use Rattle.fr_tables.specs.Rows.{key_of}
use Rattle.fr_tables.specs.Statements.{is_dropped}
use Rattle.fr_tables.specs.Tables.{Tables}
use Rattle.fr_store.specs.Owning.{is_own}
use Rattle.fr_store.specs.Reading.{Stands, name_shown}
use Rattle.fr_store.specs.StandsFor.{HoldsRows}

-- ---- the names of the frames that a supplier has in a variant

-- whether the name is one of the list
abbrev pub has_name : Name → List Name → Bool
has_name n names = list_any (is_at (slice_cmp nat_cmp n)) names

-- whether one of the rows has the name in its first column
abbrev pub any_named : Name → List Row → Bool
any_named n rows = list_any (λ r. bytes_eq (name_shown r) n) rows

-- where the variant is laid over one in which the supplier has these names, it has those: its own, and
-- the others but for the dropped ones
abbrev pub LaysNames : Name → Name → List Name → Tables → List Name → Type 0
LaysNames v s inherited t all = (n : Name) → has_name n all ≡ (is_own (key_of v s n) t || (not (list_any (is_dropped (key_of v s n)) t.dropped) && has_name n inherited))

-- these are the names of the frames that the supplier has in the variant, if the variant is there
abbrev pub TellsNames : Name → Name → Tables → List Name → Type 0
TellsNames v s t names = (count : ℕ) (b : Book) → HoldsRows t count b → (x : Variant) → get b.variants v ≡ Some x → (n : Name) → has_name n names ≡ contains x.frames (s, n)

-- ---- a variant that is filled

-- the variant, flat, with these of its frames
abbrev pub flat : Variant → Table owned Frame → Variant
flat x frames = record x { parent = None; depth = 1; released = false; frames = frames }

-- the book with it
abbrev pub filled : Book → Name → Variant → Table owned Frame → Book
filled b v x frames = with_variant b v (flat x frames)

-- each frame of the part is there in the whole
abbrev pub IsPart : Table owned Frame → Table owned Frame → Type 0
IsPart part whole = (k : Name × Name) (f : Frame) → get part k ≡ Some f → get whole k ≡ Some f

-- the whole has a frame under this key only where the part has it too
abbrev pub Reaches : Table owned Frame → Table owned Frame → Name × Name → Type 0
Reaches whole part k = (f : Frame) → get whole k ≡ Some f → get part k ≡ Some f

-- A flat variant may be opened from the other one: it is not there yet, and the other one is there and
-- released.
pub record MayOpen (b : Book) (v from : Name) (x : Variant) : Type 0 where
  pub new : get b.variants v ≡ None
  pub there : get b.variants from ≡ Some x
  pub released : IsTrue x.released

-- In a new book the variant has more of the other's frames, and these are reached.
pub record HasMore (b : Book) (v : Name) (x : Variant) (part : Table owned Frame) (Reached : Table owned Frame → Type 0) (s : State) (c : Cluster) : Type 0 where
  pub frames : Table owned Frame
  pub within : IsPart frames x.frames
  pub more : IsPart part frames
  pub reached : Reached frames
  pub stands : Stands s c (filled b v x frames)

-- Statements inside a transaction copy frames of the other variant, where it may have these, until they
-- have reached those; or one of them fails.
abbrev pub Copies : {X E : Type 0} → Name → Name → (Table owned Frame → Type 0) → (Table owned Frame → Table owned Frame → Type 0) → State → State → Result X E → Type 0
Copies v from Given Reached old new r =
    HasCleanDisk new → IsTrue old.in_transaction → (c : Cluster) (b : Book) (x : Variant) (part : Table owned Frame) → MayOpen b v from x → Given x.frames → IsPart part x.frames → Stands old c (filled b v x part)
    → OnOk r (HasMore b v x part (Reached x.frames) new c)

-- nothing is asked of the frames
abbrev pub AnyFrames : Table owned Frame → Type 0
AnyFrames whole = Unit {0}

-- Statements inside a transaction open the variant with the other's grants, and no frames yet.
abbrev pub OpensFlat : {X E : Type 0} → Name → Name → State → State → Result X E → Type 0
OpensFlat v from old new r =
    HasCleanDisk new → IsTrue old.in_transaction → (c : Cluster) (b : Book) (x : Variant) → MayOpen b v from x → Stands old c b → OnOk r (Stands new c (filled b v x empty))

-- the names are those of all suppliers
abbrev pub TellsSuppliers : Tables → List Name → Type 0
TellsSuppliers t names = (count : ℕ) (b : Book) → HoldsRows t count b → (s : Name) → IsTrue (contains b.suppliers s) → IsTrue (has_name s names)
