-- Page: a supplier's rows in a variant as lists, the supplier's own rows that they stand for, and which rows a page
-- has: in the order of their keys, within the limits, placements that fit and lie in grants to their frame's node, no
-- cell twice, signals that make a layout. The rows of a supplier in a book.
use Rattle.std.specs.Prelude.{◌≡◌, ◌≤◌, Bool, List, map, IsTrue, All, AllPairs, Some}
use Rattle.std.specs.declared.cmp.Ordering.{Ordering}
use Rattle.std.specs.Ordering.{on}
use Rattle.std.specs.List.Sorted.{IsStrictlySortedBy}
use Rattle.std.specs.Map.{keys_of}
use Rattle.fr_base.specs.Tables.{get, len}
use Rattle.fr_base.specs.Keys.{names, owned, channel_slots, placement_order}
use Rattle.fr_base.specs.Cells.{Cell, has_cell}
use Rattle.fr_base.specs.Layouts.{LayoutData, IsLayout}
use Rattle.fr_base.specs.Book as book
use Rattle.fr_base.specs.Book.{own, own_grants, granted, placements_of}
use Rattle.fr_base.specs.Step.{OwnRows, layout_of}
use Rattle.fr_base.specs.Queries.{placements_in}
use Rattle.fr_base.specs.Sound.{FitsCluster}
use Rattle.fr_base.specs.declared.limits.TheConstants.{MAX_NODES, MAX_FRAMES, MAX_PLACEMENTS}
use Rattle.fr_base.specs.declared.name.Name.{Name}
use Rattle.fr_base.specs.declared.params.Params.{Params}
use Rattle.fr_base.specs.declared.placement.Placement.{Placement}
use Rattle.fr_world.specs.Maps.{table_of, set_of}
use Rattle.fr_world.specs.declared.page.ChannelSlot.{ChannelSlot}
use Rattle.fr_world.specs.declared.page.PageFrame.{PageFrame}
use Rattle.fr_world.specs.declared.page.PageRows.{PageRows}

-- a frame's rows
pub record FrameData : Type 0 where
  pub node : Name
  pub placements : List Placement
  pub layout : LayoutData

-- a supplier's rows in a variant, each kind in the order of its keys
pub record PageData : Type 0 where
  pub params : Params
  pub supplier : Name
  pub variant : Name
  pub released : Bool
  pub nodes : List Name
  pub grants : List (ChannelSlot × Name)
  pub frames : List (Name × FrameData)

abbrev pub frame_data : PageFrame → FrameData
frame_data f = record { node = f.node; placements = f.placements.keys; layout = f.layout }

abbrev pub frames_data : List (Name × PageFrame) → List (Name × FrameData)
frames_data frames = map (λ e. (e.0, frame_data e.1)) frames

-- the lists of a page's maps and sets
abbrev pub rows_data : PageRows → PageData
rows_data r = record {
  params = r.params;
  supplier = r.supplier;
  variant = r.variant;
  released = r.released;
  nodes = r.nodes.keys;
  grants = r.grants.entries;
  frames = frames_data r.frames.entries;
}

abbrev pub frame_of : FrameData → book.Frame
frame_of f = record { node = f.node; placements = set_of placement_order (λ q. q) f.placements; signals = f.layout.signals }

abbrev pub holder_of : Name → Name → book.Holder
holder_of s n = record { supplier = s; node = n }

-- the supplier's own rows that a page's lists stand for
abbrev pub own_rows_of : PageData → OwnRows
own_rows_of rows = record {
  params = rows.params;
  supplier = rows.supplier;
  nodes = set_of owned (λ n. (rows.supplier, n)) rows.nodes;
  grants = table_of channel_slots (λ k. (k.slot, k.channel)) (holder_of rows.supplier) rows.grants;
  frames = table_of owned (λ f. (rows.supplier, f)) frame_of rows.frames;
}

-- no cell lies in both placements
abbrev pub AreApart : Placement → Placement → Type 0
AreApart q r = (c : Cell) → IsTrue (has_cell q c) → ¬ IsTrue (has_cell r c)

-- A page may have the frame: its placements are few, fit the cluster and lie in grants to its node,
-- and its signals make a layout of the payload.
pub record IsPageFrame (page : OwnRows) (f : book.Frame) : Type 0 where
  pub few : len f.placements ≤ MAX_PLACEMENTS
  pub fits : All (FitsCluster page.params) (placements_in f)
  pub in_grants : All (λ q. IsTrue (granted page.grants page.supplier f.node q)) (placements_in f)
  pub layout : IsLayout (layout_of page.params f)

-- A page may have the rows: the limits are kept, it may have each frame, and no two placements
-- share a cell.
pub record IsPage (page : OwnRows) : Type 0 where
  pub nodes : len page.nodes ≤ MAX_NODES
  pub frames : len page.frames ≤ MAX_FRAMES
  pub each : (k : Name × Name) (f : book.Frame) → get page.frames k ≡ Some f → IsPageFrame page f
  pub apart : AllPairs (λ x y. AreApart x.1 y.1) (placements_of page.frames)

-- the order of slots on channels: by slot, then A before B
abbrev pub compare_slots : ChannelSlot → ChannelSlot → Ordering
compare_slots = on (λ k. (k.slot, k.channel)) channel_slots.compare

-- frames stand in the order of their names, no name twice, and each frame's placements in theirs, none twice
pub record AreInOrder (frames : List (Name × FrameData)) : Type 0 where
  pub names : IsStrictlySortedBy names.compare (keys_of frames)
  pub placements : All (λ e. IsStrictlySortedBy placement_order.compare e.1.placements) frames

-- the rows stand in the order of their keys, no key twice
pub record IsInOrder (rows : PageData) : Type 0 where
  pub nodes : IsStrictlySortedBy names.compare rows.nodes
  pub grants : IsStrictlySortedBy compare_slots (keys_of rows.grants)
  pub frames : AreInOrder rows.frames

-- A page keeps the rows: it may have them, each layout is that of the cluster's payload, and the
-- rows stand in order.
pub record IsKept (rows : PageData) : Type 0 where
  pub page : IsPage (own_rows_of rows)
  pub words : All (λ e. e.1.layout.words ≡ rows.params.payload_words) rows.frames
  pub order : IsInOrder rows

-- ---- a page of the register

-- the nodes of a supplier, in order
unfoldable pub nodes_in : book.Book → Name → List Name
nodes_in b s = map (λ e. e.0.1) (own s b.nodes).rows

-- which of the supplier's nodes holds which slot and channel, by slot and channel
unfoldable pub grants_in : Name → book.Variant → List (ChannelSlot × Name)
grants_in s x = map (λ e. (record { slot = e.0.0; channel = e.0.1 }, e.1.node)) (own_grants s x.grants).rows

-- the supplier's frames, by their names
unfoldable pub frames_in : Params → Name → book.Variant → List (Name × FrameData)
frames_in p s x =
    map (λ e. (e.0.1, record { node = e.1.node; placements = placements_in e.1; layout = layout_of p e.1 })) (own s x.frames).rows

-- the rows of a supplier in a variant of the register
abbrev pub page_in : Params → book.Book → Name → Name → book.Variant → PageData
page_in p b s v x = record {
  params = p;
  supplier = s;
  variant = v;
  released = x.released;
  nodes = nodes_in b s;
  grants = grants_in s x;
  frames = frames_in p s x;
}
