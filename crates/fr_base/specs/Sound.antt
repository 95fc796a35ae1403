-- Sound: the cluster with the book's suppliers is a well formed cluster file. Names have their form, and each row's
-- owner is there. Each variant has no parent, or a released one that is one less deep. Grants and placements
-- fit the cluster, whose count of cycles each placement's set has. Each placement lies in grants to its frame's node.
-- In a cell at most one frame is sent, by one placement. Each frame's signals have names and make a layout of the
-- payload. A kept import's label is a name, its supplier and variant are there, and its file is within the limits. The
-- limits are kept.
use Rattle.std.specs.Prelude.{◌≡◌, ℕ, suc, ◌≤◌, length, Option, Some, None, IsTrue, All, ⊤}
use Rattle.std.specs.List.{list_all}
use Rattle.fr_base.specs.Tables.{Table, get, contains, len}
use Rattle.fr_base.specs.Keys.{names, owned, channel_slots}
use Rattle.fr_base.specs.Cells.{Cell, has_cell}
use Rattle.fr_base.specs.Cycles.{are_cycles}
use Rattle.fr_base.specs.Channels.{channels_in, has_channel}
use Rattle.fr_base.specs.Cluster.{Cluster, IsWellFormed}
use Rattle.fr_base.specs.Names.{is_name}
use Rattle.fr_base.specs.Book.{Holder, Frame, Variant, Kept, Book, file_of, own, granted}
use Rattle.fr_base.specs.Layouts.{IsLayout}
use Rattle.fr_base.specs.Step.{layout_of}
use Rattle.fr_base.specs.declared.limits.TheConstants.{MAX_NODES, MAX_VARIANTS, MAX_DEPTH, MAX_FRAMES, MAX_PLACEMENTS, MAX_IMPORTS, MAX_IMPORT_BYTES, MAX_ROWS}
use Rattle.fr_base.specs.declared.channel.Channel.{Channel}
use Rattle.fr_base.specs.declared.key.Key.{Key}
use Rattle.fr_base.specs.declared.name.Name.{Name}
use Rattle.fr_base.specs.declared.params.Params.{Params}
use Rattle.fr_base.specs.declared.placement.Placement.{Placement}

-- the cluster has the slot and the channel
pub record HasChannelSlot (p : Params) (at : ℕ × Channel) : Type 0 where
  pub from_one : 1 ≤ at.0
  pub to_last : at.0 ≤ p.static_slots
  pub channel : IsTrue (has_channel p.channels at.1)

-- the cluster has the placement's slot and channels, and its cycles are a set of the cluster's cycles
pub record FitsCluster (p : Params) (q : Placement) : Type 0 where
  pub from_one : 1 ≤ q.slot
  pub to_last : q.slot ≤ p.static_slots
  pub channels : IsTrue (list_all (has_channel p.channels) (channels_in q.channels))
  pub count : q.cycles.count ≡ p.cycles
  pub cycles : IsTrue (are_cycles q.cycles)

-- a frame has a name, and its node is its supplier's; each of its placements fits the cluster and lies in grants to that node; its placements are within the limit;
-- and its signals have names and make a layout of the payload
pub record IsSoundFrame (p : Params) (nodes : Table owned ⊤) (grants : Table channel_slots Holder) (k : Name × Name) (f : Frame) : Type 0 where
  pub name : IsTrue (is_name k.1)
  pub node : IsTrue (contains nodes (k.0, f.node))
  pub fits : (q : Placement) → IsTrue (contains f.placements q) → FitsCluster p q
  pub in_grants : (q : Placement) → IsTrue (contains f.placements q) → IsTrue (granted grants k.0 f.node q)
  pub limit : len f.placements ≤ MAX_PLACEMENTS
  pub layout : IsLayout (layout_of p f)
  pub signal_names : All (λ s. IsTrue (is_name s.name)) f.signals

-- the frame under this key, a supplier and a name, is sent in the cell by this one of its placements
pub record IsSent (v : Variant) (k : Name × Name) (f : Frame) (q : Placement) (cell : Cell) : Type 0 where
  pub frame : get v.frames k ≡ Some f
  pub placement : IsTrue (contains f.placements q)
  pub has : IsTrue (has_cell q cell)

-- a variant: each grant fits the cluster and names a node that is there; its frames are sound; in a cell at most one is sent, by one placement; the limits
pub record IsSoundVariant (p : Params) (nodes : Table owned ⊤) (v : Variant) : Type 0 where
  pub grant_nodes : (at : ℕ × Channel) (h : Holder) → get v.grants at ≡ Some h → IsTrue (contains nodes (h.supplier, h.node))
  pub grants_fit : (at : ℕ × Channel) (h : Holder) → get v.grants at ≡ Some h → HasChannelSlot p at
  pub frames : (k : Name × Name) (f : Frame) → get v.frames k ≡ Some f → IsSoundFrame p nodes v.grants k f
  pub apart : (k l : Name × Name) (f g : Frame) (q r : Placement) (cell : Cell) → IsSent v k f q cell → IsSent v l g r cell → (k ≡ l) × (q ≡ r)
  pub frame_limit : (s : Name) → len (own s v.frames) ≤ MAX_FRAMES
  pub depth : v.depth ≤ MAX_DEPTH

-- a variant of this parent and depth: one without a parent has depth 1; else the parent is a released variant, one less deep
abbrev pub IsOpenedFrom : Table names Variant → Option Name → ℕ → Type 0
IsOpenedFrom variants None depth = depth ≡ 1
IsOpenedFrom variants (Some name) depth =
    (parent : Variant) × (get variants name ≡ Some parent) × IsTrue parent.released × (depth ≡ suc parent.depth)

-- an import that is kept: its label is a name, its supplier and its variant are there, and its file is within the limits
pub record IsSoundImport (suppliers : Table names Key) (variants : Table names Variant) (s l : Name) (kept : Kept) : Type 0 where
  pub label : IsTrue (is_name l)
  pub supplier : IsTrue (contains suppliers s)
  pub variant : IsTrue (contains variants kept.variant)
  pub bytes : length kept.body ≤ MAX_IMPORT_BYTES
  pub rows : kept.rows ≤ MAX_ROWS

-- a book under a cluster: the cluster with the book's suppliers is what a cluster file may say, at most 64, with names and keys of
-- their form, and no key twice, the integrator's too; each node has a name, and its supplier is there; each variant has a name, is
-- sound, and has no parent, or a released one that is one less deep; the kept imports are sound; the limits are kept
pub record IsSound (c : Cluster) (b : Book) : Type 0 where
  pub cluster : IsWellFormed (file_of c b)
  pub nodes : (s n : Name) → IsTrue (contains b.nodes (s, n)) → IsTrue (is_name n) × IsTrue (contains b.suppliers s)
  pub variants : (v : Name) (variant : Variant) → get b.variants v ≡ Some variant → IsTrue (is_name v) × IsSoundVariant c.params b.nodes variant
  pub parents : (v : Name) (variant : Variant) → get b.variants v ≡ Some variant → IsOpenedFrom b.variants variant.parent variant.depth
  pub imports : (s l : Name) (kept : Kept) → get b.imports (s, l) ≡ Some kept → IsSoundImport b.suppliers b.variants s l kept
  pub node_limit : (s : Name) → len (own s b.nodes) ≤ MAX_NODES
  pub variant_limit : len b.variants ≤ MAX_VARIANTS
  pub import_limit : (s : Name) → len (own s b.imports) ≤ MAX_IMPORTS
