-- Laws of a difference as an edit: the rows that are seen of the newer variant are those of the
-- older one without what is gone and with what is new. All these lists are in the order of kinds,
-- then keys; at one key what is gone comes first.
use Rattle.std.specs.Prelude.{◌≡◌, ◌⊎◌, ℕ, Bool, T, List, [], ◌∷◌, map, if◌then◌else◌, ⊤}
use Rattle.std.specs.declared.cmp.Ordering.{Ordering}
use Rattle.std.specs.declared.cmp.Ordering.TheVariants.{Equal}
use Rattle.std.specs.Ordering.{nat_cmp, ordering_then}
use Rattle.std.specs.FinMap.Entries.{is_sorted}
use Rattle.fr_base.specs.Keys.{owned, channel_slots}
use Rattle.fr_base.specs.Book.{Variant}
use Rattle.fr_base.specs.Differences.{placed_frames, starts, seen_rows, gone_in, new_in, differences}
use Rattle.fr_base.specs.declared.params.Params.{Params}
use Rattle.fr_base.specs.declared.actor.Actor.{Actor}
use Rattle.fr_base.specs.declared.answer.DifferenceRow.{DifferenceRow}
use Rattle.fr_base.specs.declared.answer.SeenRow.{SeenRow}
use Rattle.fr_base.specs.declared.answer.SeenRow.TheVariants as row

-- ---- an edit

-- The first list is the other two woven together: each of its elements is the next of the one or
-- of the other, and none is left over.
abbrev pub IsWoven : {X : Type 0} → List X → List X → List X → Type 0
IsWoven [] xs ys = (xs ≡ []) × (ys ≡ [])
IsWoven {X} (z ∷ zs) xs ys =
    ((rest : List X) × (xs ≡ z ∷ rest) × IsWoven zs rest ys)
    ⊎ ((rest : List X) × (ys ≡ z ∷ rest) × IsWoven zs xs rest)

-- Some rows are kept. The old rows are these with those that are gone, and the new rows are these
-- with those that were added.
pub record IsEdited (old gone new added : List SeenRow) : Type 0 where
  pub kept : List SeenRow
  pub was : IsWoven old kept gone
  pub is : IsWoven new kept added

-- The rows that the actor sees of the newer variant are those of the older one without the rows
-- that are told to be gone, and with those that are told to be new.
abbrev pub NewIsOldEdited : Type 0
NewIsOldEdited = (p : Params) (actor : Actor) (old new : Variant) →
    IsEdited (seen_rows p actor old) (gone_in (differences p actor old new))
    (seen_rows p actor new) (new_in (differences p actor old new))

-- ---- the order of rows

-- grants come first, then frames, placements, signals and gaps
abbrev pub kind_of : SeenRow → ℕ
kind_of (row.Grant grant) = 0
kind_of (row.Frame frame) = 1
kind_of (row.Placement frame placement supplier) = 2
kind_of (row.Signal signal) = 3
kind_of (row.Gap gap) = 4

-- the order of two rows of one kind: by their keys
abbrev pub key_cmp : SeenRow → SeenRow → Ordering
key_cmp (row.Grant x) (row.Grant y) = channel_slots.compare (x.slot, x.channel) (y.slot, y.channel)
key_cmp (row.Frame x) (row.Frame y) = owned.compare (x.supplier, x.frame) (y.supplier, y.frame)
key_cmp (row.Placement f q s) (row.Placement g r t) = placed_frames.compare ((s, f), q) ((t, g), r)
key_cmp (row.Signal x) (row.Signal y) =
    starts.compare ((x.supplier, x.frame), x.signal.start) ((y.supplier, y.frame), y.signal.start)
key_cmp (row.Gap x) (row.Gap y) = owned.compare (x.supplier, x.frame) (y.supplier, y.frame)
key_cmp _ _ = Equal

-- the order of rows: by kind, then key
abbrev pub seen_cmp : SeenRow → SeenRow → Ordering
seen_cmp x y = ordering_then (nat_cmp (kind_of x) (kind_of y)) (key_cmp x y)

-- the order of news at one key: what is gone comes before what is new
abbrev pub news_cmp : Bool → Bool → Ordering
news_cmp a b = nat_cmp (if a then 1 else 0) (if b then 1 else 0)

-- the order of a difference's rows: by kind, then key, then news
abbrev pub difference_cmp : DifferenceRow → DifferenceRow → Ordering
difference_cmp x y = ordering_then (seen_cmp x.row y.row) (news_cmp x.is_new y.is_new)

abbrev pub as_key : {X : Type 0} → X → X × ⊤
as_key x = (x, tt)

-- each comes before all that follow it
abbrev pub Rises : {X : Type 0} → (X → X → Ordering) → List X → Type 0
Rises compare xs = T (is_sorted compare (map as_key xs))

-- The rows that the actor sees of a variant come by kind, then key, and no two of a kind have one
-- key.
abbrev pub SeenRowsAreInOrder : Type 0
SeenRowsAreInOrder = (p : Params) (actor : Actor) (x : Variant) →
    Rises seen_cmp (seen_rows p actor x)

-- The rows of a difference come by kind, then key. At one key what is gone comes before what is
-- new.
abbrev pub DifferencesAreInOrder : Type 0
DifferencesAreInOrder = (p : Params) (actor : Actor) (old new : Variant) →
    Rises difference_cmp (differences p actor old new)
