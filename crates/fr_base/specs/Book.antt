-- Book: the suppliers, their nodes, the variants, and the imports that are kept under each supplier's labels; in a
-- variant who holds which slot and channel, and each supplier's frames with their placements and signals. A register
-- begins with the cluster file's suppliers and nothing else. The cluster file that says what a cluster and a book have
-- now. What of a book is one supplier's own, and who sends in which cell.
use Rattle.std.specs.Prelude.{ℕ, Bool, false, ◌&&◌, List, map, Option, Some, None, ⊤}
use Rattle.std.specs.List.{flat_map, list_all}
use Rattle.fr_base.specs.Tables.{Table, empty, get, only, from_rows}
use Rattle.fr_base.specs.Keys.{names, owned, channel_slots, placement_order}
use Rattle.fr_base.specs.Cells.{Cell}
use Rattle.fr_base.specs.Channels.{channels_in}
use Rattle.fr_base.specs.Schedule.{fill}
use Rattle.fr_base.specs.Cluster.{Cluster, ClusterFile}
use Rattle.fr_base.specs.Names.{same_text}
use Rattle.fr_base.specs.Signals.{SignalData}
use Rattle.fr_base.specs.declared.config.Supplier.{Supplier}
use Rattle.fr_base.specs.declared.key.Key.{Key}
use Rattle.fr_base.specs.declared.name.Name.{Name}
use Rattle.fr_base.specs.declared.placement.Placement.{Placement}

-- who holds a slot and channel: a supplier, with one of its nodes
pub record Holder : Type 0 where
  pub supplier : Name
  pub node : Name

-- the node that sends a frame, where it is placed, and the signals in its payload, in the order of their starts
pub record Frame : Type 0 where
  pub node : Name
  pub placements : Table placement_order ⊤
  pub signals : List SignalData

-- a plan of the static segment: who holds which slot and channel, and each supplier's frames.
-- Its parent is the variant that it was opened from; one that was opened empty or flat has none, and depth 1.
pub record Variant : Type 0 where
  pub parent : Option Name
  pub depth : ℕ
  pub released : Bool
  pub grants : Table channel_slots Holder
  pub frames : Table owned Frame

-- an import that was carried out: the variant, the bytes of its file, and how many rows they are
pub record Kept : Type 0 where
  pub variant : Name
  pub body : List ℕ
  pub rows : ℕ

-- the suppliers with their keys, their nodes, the variants, and the imports that are kept under each supplier's labels
pub record Book : Type 0 where
  pub suppliers : Table names Key
  pub nodes : Table owned ⊤
  pub variants : Table names Variant
  pub imports : Table owned Kept

-- a variant that was opened empty
unfoldable pub empty_variant : Variant
empty_variant = record { parent = None; depth = 1; released = false; grants = empty; frames = empty }

-- the cluster file's suppliers with their keys
unfoldable pub suppliers_of : ClusterFile → Table names Key
suppliers_of f = from_rows (map (λ s. (s.name, s.key)) f.suppliers)

-- the book of a register that was just made: the cluster file's suppliers, and nothing else
unfoldable pub opening : ClusterFile → Book
opening f = record { suppliers = suppliers_of f; nodes = empty; variants = empty; imports = empty }

-- a supplier with its key
abbrev pub listed : Name × Key → Supplier
listed row = record { name = row.0; key = row.1 }

-- the cluster file that says what the book has: the same parameters and integrator's key, and the suppliers that are there now
abbrev pub file_of : Cluster → Book → ClusterFile
file_of c b = record { cluster = c; suppliers = map listed b.suppliers.rows }

-- whether slot and channel are held by this supplier
abbrev pub held_by : Name → Option Holder → Bool
held_by s None = false
held_by s (Some h) = same_text h.supplier s

-- whether slot and channel are held by this supplier with this node
abbrev pub held_by_node : Name → Name → Option Holder → Bool
held_by_node s n None = false
held_by_node s n (Some h) = same_text h.supplier s && same_text h.node n

-- whether the supplier's node holds the placement's slot on each of its channels
unfoldable pub granted : Table channel_slots Holder → Name → Name → Placement → Bool
granted grants s n q = list_all (λ c. held_by_node s n (get grants (q.slot, c))) (channels_in q.channels)

-- ---- one supplier's own

-- whether a row under this key is the supplier's
abbrev pub is_of : Name → Name × Name → Bool
is_of s k = same_text k.0 s

-- the supplier's own nodes, frames, or imports
abbrev pub own : {V : Type 0} → Name → Table owned V → Table owned V
own s table = only (λ k _. is_of s k) table

-- the grants that the supplier holds
abbrev pub own_grants : Name → Table channel_slots Holder → Table channel_slots Holder
own_grants s grants = only (λ _ h. held_by s (Some h)) grants

-- ---- who sends in which cell

-- the frame that is sent in a cell: its supplier, its name, and its node
pub record Sender : Type 0 where
  pub supplier : Name
  pub frame : Name
  pub node : Name

-- each placement with its sender, frame by frame
unfoldable pub placements_of : Table owned Frame → List (Sender × Placement)
placements_of frames =
    flat_map (λ row. map (λ q. (record { supplier = row.0.0; frame = row.0.1; node = row.1.node }, q.0)) row.1.placements.rows) frames.rows

-- who sends in which cell
unfoldable pub schedule_of : Table owned Frame → Cell → Option Sender
schedule_of frames = fill (placements_of frames)
