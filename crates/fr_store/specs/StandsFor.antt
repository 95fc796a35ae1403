-- Stands for, view: the tables stand for a cluster and a book where they have one row for each
-- entry of the book, in any order, and no other. Only those of a variant's frames that are its own
-- have rows. A variant shows its own frames. Where it is laid over its parent, it also shows those
-- that the parent shows, that it has not itself and that were not dropped in it. These are its
-- frames in the book. No row of a placement tells the count of cycles: it is the cluster's
-- (`IsAsStored`). The rows of the book's entries (`HoldsRows`) are kept apart from the heads, which
-- are the number and the cluster (`HasHeads`).
use Rattle.std.specs.Prelude.{◌≡◌, ℕ, suc, pos, Bool, not, ◌||◌, List, [], ◌∷◌, map, Option, Some, None, IsTrue, IsPermutation, IsSorted, All, ⊤, if◌then◌else◌}
use Rattle.std.specs.List.{flat_map, list_any}
use Rattle.std.specs.Ordering.{on, nat_cmp}
use Rattle.fr_base.specs.Tables.{Table, get, contains}
use Rattle.fr_base.specs.Keys.{names, owned}
use Rattle.fr_base.specs.Channels.{text_of_channel}
use Rattle.fr_base.specs.Cluster.{Cluster}
use Rattle.fr_base.specs.Book.{Frame, Variant, Kept, Book, listed}
use Rattle.fr_base.specs.Queries.{placements_in}
use Rattle.fr_base.specs.declared.name.Name.{Name}
use Rattle.fr_base.specs.declared.placement.Placement.{Placement}
use Rattle.fr_tables.specs.Rows.{flag, RegisterRow, ClusterRow, Cluster2Row, NodeRow, VariantRow, GrantRow, FrameRow, PlacementRow, SignalRow, ImportRow, DroppedRow, key_of}
use Rattle.fr_tables.specs.Tables.{Tables}
use Rattle.fr_tables.specs.Statements.{cluster2_row, placement_row, signal_row, is_dropped}
use Rattle.fr_tables.specs.Filling.{supplier_row}
use Rattle.fr_tables.specs.SchemaNumbers.{numbered, our_schema_number}

-- ---- how variants are stored

-- how a variant is stored: whether it is laid over its parent, whose frames it then shows too; and
-- the frames that are its own
pub record Stored : Type 0 where
  pub overlay : Bool
  pub own : Table owned Frame

-- ---- the rows of the book's entries

abbrev pub node_row : (Name × Name) × ⊤ → NodeRow
node_row e = record { supplier = e.0.0; name = e.0.1 }

abbrev pub variant_row : (Name → Stored) → Name × Variant → VariantRow
variant_row stored e =
    record { name = e.0; parent = e.1.parent; depth = pos e.1.depth; released = flag e.1.released; overlay = flag (stored e.0).overlay }

abbrev pub grant_rows : Name × Variant → List GrantRow
grant_rows e = map (λ g. record { variant = e.0; slot = pos g.0.0; channel = text_of_channel g.0.1; supplier = g.1.supplier; node = g.1.node }) e.1.grants.rows

abbrev pub import_row : (Name × Name) × Kept → ImportRow
import_row e = record { supplier = e.0.0; label = e.0.1; variant = e.1.variant; body = e.1.body; rows = pos e.1.rows }

-- a row of a variant's frames: its key, and the frame
abbrev pub Entry : Type 0
Entry = (Name × Name) × Frame

abbrev pub frame_row : Name → Entry → FrameRow
frame_row v f = record { variant = v; supplier = f.0.0; name = f.0.1; node = f.1.node }

abbrev pub placement_rows : Name → Entry → List PlacementRow
placement_rows v f = map (placement_row (key_of v f.0.0 f.0.1)) (placements_in f.1)

abbrev pub signal_rows : Name → Entry → List SignalRow
signal_rows v f = map (signal_row (key_of v f.0.0 f.0.1)) f.1.signals

-- what is said of each of the variants' own frames
unfoldable pub of_frames : {X : Type 0} → (Name → Entry → List X) → (Name → Stored) → Table names Variant → List X
of_frames rows stored variants = flat_map (λ e. flat_map (rows e.0) (stored e.0).own.rows) variants.rows

-- ---- the view of a variant's frames

-- the frames of the parent's view, if there is a parent
unfoldable pub of_parent : Table names Variant → Option Name → Name × Name → Option Frame
of_parent variants None k = None
of_parent variants (Some parent) k = frame_in (get variants parent) k
  where
    frame_in : Option Variant → Name × Name → Option Frame
    frame_in None k = None
    frame_in (Some x) k = get x.frames k

-- the variant's own frame; else the parent's, unless it is hidden
abbrev pub own_or : Option Frame → Bool → Option Frame → Option Frame
own_or (Some own) hidden inherited = Some own
own_or None hidden inherited = if hidden then None else inherited

-- whether the parent's frame is hidden: it was dropped in the variant, or the variant is not laid
-- over its parent
abbrev pub is_hidden : List DroppedRow → Name → Stored → Name × Name → Bool
is_hidden dropped v stored k = not stored.overlay || list_any (is_dropped (key_of v k.0 k.1)) dropped

-- the frame that the variant shows under a supplier and a name
unfoldable pub seen : List DroppedRow → Table names Variant → Name → Option Name → Stored → Name × Name → Option Frame
seen dropped variants v parent stored k = own_or (get stored.own k) (is_hidden dropped v stored k) (of_parent variants parent k)

-- ---- the tables

-- a variant's parent is there and released, and one less deep
abbrev pub HasItsParent : Table names Variant → Option Name → ℕ → Type 0
HasItsParent variants None depth = ⊤
HasItsParent variants (Some name) depth =
    (parent : Variant) × (get variants name ≡ Some parent) × IsTrue parent.released × (depth ≡ suc parent.depth)

-- a frame's signals stand by their starts, and its placements are of so many cycles
pub record IsFine (count : ℕ) (f : Frame) : Type 0 where
  pub by_start : IsSorted (on (λ s. s.start) nat_cmp) f.signals
  pub counted : (q : Placement) → IsTrue (contains f.placements q) → q.cycles.count ≡ count

-- the variant is as it is stored: its frames are those that it shows, and each of them is fine
pub record IsAsStored (count : ℕ) (dropped : List DroppedRow) (variants : Table names Variant) (stored : Stored) (v : Name) (x : Variant) : Type 0 where
  pub parent : HasItsParent variants x.parent x.depth
  pub frames : (k : Name × Name) → get x.frames k ≡ seen dropped variants v x.parent stored k
  pub fine : (k : Name × Name) (f : Frame) → get x.frames k ≡ Some f → IsFine count f

-- The tables have one row for each entry of the book, in any order, and no other. Frames have rows
-- only where they are a variant's own. The row of a placement does not say its count of cycles: it
-- is this one.
pub record HoldsRows (t : Tables) (count : ℕ) (b : Book) : Type 0 where
  pub suppliers : IsPermutation (map supplier_row (map listed b.suppliers.rows)) t.suppliers
  pub nodes : IsPermutation (map node_row b.nodes.rows) t.nodes
  pub imports : IsPermutation (map import_row b.imports.rows) t.imports
  pub stored : Name → Stored
  pub variants : IsPermutation (map (variant_row stored) b.variants.rows) t.variants
  pub grants : IsPermutation (flat_map grant_rows b.variants.rows) t.grants
  pub frames : IsPermutation (of_frames (λ v f. frame_row v f ∷ []) stored b.variants) t.frames
  pub placements : IsPermutation (of_frames placement_rows stored b.variants) t.placements
  pub signals : IsPermutation (of_frames signal_rows stored b.variants) t.signals
  pub dropped : All (λ d. IsTrue (contains b.variants d.variant)) t.dropped
  pub each : (v : Name) (x : Variant) → get b.variants v ≡ Some x → IsAsStored count t.dropped b.variants (stored v) v x

-- the one row of the register and the one of the cluster
pub record HasHeads (register : List RegisterRow) (cluster : List ClusterRow) (cluster2 : List Cluster2Row) (c : Cluster) : Type 0 where
  pub number : register ≡ numbered our_schema_number ∷ []
  pub none_before : cluster ≡ []
  pub params : cluster2 ≡ cluster2_row c.params c.integrator ∷ []

-- the tables stand for the cluster and the book
pub record StandsFor (t : Tables) (c : Cluster) (b : Book) : Type 0 where
  pub heads : HasHeads t.register t.cluster t.cluster2 c
  pub rows : HoldsRows t c.params.cycles b
