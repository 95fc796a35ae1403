-- Rows: a row of each table as a value of its own, with its columns, and what its columns say.
use Rattle.std.specs.Prelude.{ℕ, ℤ, pos, Bool, List, [], ◌∷◌, Option, Some, None, if◌then◌else◌}
use Rattle.sqlite.specs.declared.types.Value.{Value}
use Rattle.sqlite.specs.declared.types.Value.TheVariants.{Null, Int, Text, Blob}
use Rattle.sqlite.specs.Order.{Row, column}
use Rattle.fr_tables.specs.declared.frame_key.FrameKey.{FrameKey}

abbrev pub words : Value → List ℕ
words (Text t) = t
words _ = []

abbrev pub number : Value → ℤ
number (Int n) = n
number _ = pos 0

abbrev pub bytes : Value → List ℕ
bytes (Blob b) = b
bytes _ = []

-- NULL is no text
abbrev pub maybe_words : Value → Option (List ℕ)
maybe_words (Text t) = Some t
maybe_words _ = None

abbrev pub of_maybe : Option (List ℕ) → Value
of_maybe (Some t) = Text t
of_maybe None = Null

-- 1 for true, 0 for false
abbrev pub flag : Bool → ℤ
flag is = if is then pos 1 else pos 0

-- ---- the rows; the number 1 of a register's and a cluster's row is left out

pub record RegisterRow : Type 0 where
  pub schema : ℤ

pub record ClusterRow : Type 0 where
  pub static_slots : ℤ
  pub slot_macroticks : ℤ
  pub dynamic_macroticks : ℤ
  pub symbol_macroticks : ℤ
  pub idle_macroticks : ℤ
  pub macroticks_per_cycle : ℤ
  pub payload_words : ℤ
  pub channels : List ℕ
  pub integrator : List ℕ

-- a cluster's row with the count of cycles
pub record Cluster2Row : Type 0 where
  pub static_slots : ℤ
  pub slot_macroticks : ℤ
  pub dynamic_macroticks : ℤ
  pub symbol_macroticks : ℤ
  pub idle_macroticks : ℤ
  pub macroticks_per_cycle : ℤ
  pub payload_words : ℤ
  pub channels : List ℕ
  pub integrator : List ℕ
  pub cycles : ℤ

pub record SupplierRow : Type 0 where
  pub name : List ℕ
  pub key : List ℕ

pub record NodeRow : Type 0 where
  pub supplier : List ℕ
  pub name : List ℕ

pub record VariantRow : Type 0 where
  pub name : List ℕ
  pub parent : Option (List ℕ)
  pub depth : ℤ
  pub released : ℤ
  pub overlay : ℤ

pub record GrantRow : Type 0 where
  pub variant : List ℕ
  pub slot : ℤ
  pub channel : List ℕ
  pub supplier : List ℕ
  pub node : List ℕ

pub record FrameRow : Type 0 where
  pub variant : List ℕ
  pub supplier : List ℕ
  pub name : List ℕ
  pub node : List ℕ

pub record PlacementRow : Type 0 where
  pub variant : List ℕ
  pub supplier : List ℕ
  pub frame : List ℕ
  pub slot : ℤ
  pub channels : List ℕ
  pub base : ℤ
  pub repetition : ℤ

pub record SignalRow : Type 0 where
  pub variant : List ℕ
  pub supplier : List ℕ
  pub frame : List ℕ
  pub name : List ℕ
  pub start : ℤ
  pub length : ℤ
  pub big : ℤ

pub record ImportRow : Type 0 where
  pub supplier : List ℕ
  pub label : List ℕ
  pub variant : List ℕ
  pub body : List ℕ
  pub rows : ℤ

-- the row of a dropped frame names it
abbrev pub DroppedRow : Type 0
DroppedRow = FrameKey

-- which frame this is
abbrev pub key_of : List ℕ → List ℕ → List ℕ → FrameKey
key_of variant supplier frame = record { variant = variant; supplier = supplier; frame = frame }

-- ---- the columns of each row, and what they say

-- the column that is the row's number is kept as NULL
abbrev pub of_register : RegisterRow → Row
of_register r = Null ∷ Int r.schema ∷ []

abbrev pub register_in : Row → RegisterRow
register_in r = record { schema = number (column r 2) }

abbrev pub of_cluster : ClusterRow → Row
of_cluster c =
    Null ∷ Int c.static_slots ∷ Int c.slot_macroticks ∷ Int c.dynamic_macroticks ∷ Int c.symbol_macroticks ∷ Int c.idle_macroticks ∷ Int c.macroticks_per_cycle ∷ Int c.payload_words
    ∷ Text c.channels ∷ Text c.integrator ∷ []

abbrev pub cluster_in : Row → ClusterRow
cluster_in r = record {
  static_slots = number (column r 2);
  slot_macroticks = number (column r 3);
  dynamic_macroticks = number (column r 4);
  symbol_macroticks = number (column r 5);
  idle_macroticks = number (column r 6);
  macroticks_per_cycle = number (column r 7);
  payload_words = number (column r 8);
  channels = words (column r 9);
  integrator = words (column r 10);
}

abbrev pub of_cluster2 : Cluster2Row → Row
of_cluster2 c =
    Null ∷ Int c.static_slots ∷ Int c.slot_macroticks ∷ Int c.dynamic_macroticks ∷ Int c.symbol_macroticks ∷ Int c.idle_macroticks ∷ Int c.macroticks_per_cycle ∷ Int c.payload_words
    ∷ Text c.channels ∷ Text c.integrator ∷ Int c.cycles ∷ []

abbrev pub cluster2_in : Row → Cluster2Row
cluster2_in r = record {
  static_slots = number (column r 2);
  slot_macroticks = number (column r 3);
  dynamic_macroticks = number (column r 4);
  symbol_macroticks = number (column r 5);
  idle_macroticks = number (column r 6);
  macroticks_per_cycle = number (column r 7);
  payload_words = number (column r 8);
  channels = words (column r 9);
  integrator = words (column r 10);
  cycles = number (column r 11);
}

abbrev pub of_supplier : SupplierRow → Row
of_supplier s = Text s.name ∷ Text s.key ∷ []

abbrev pub supplier_in : Row → SupplierRow
supplier_in r = record { name = words (column r 1); key = words (column r 2) }

abbrev pub of_node : NodeRow → Row
of_node n = Text n.supplier ∷ Text n.name ∷ []

abbrev pub node_in : Row → NodeRow
node_in r = record { supplier = words (column r 1); name = words (column r 2) }

abbrev pub of_variant : VariantRow → Row
of_variant v = Text v.name ∷ of_maybe v.parent ∷ Int v.depth ∷ Int v.released ∷ Int v.overlay ∷ []

abbrev pub variant_in : Row → VariantRow
variant_in r = record { name = words (column r 1); parent = maybe_words (column r 2); depth = number (column r 3); released = number (column r 4); overlay = number (column r 5) }

abbrev pub of_grant : GrantRow → Row
of_grant g = Text g.variant ∷ Int g.slot ∷ Text g.channel ∷ Text g.supplier ∷ Text g.node ∷ []

abbrev pub grant_in : Row → GrantRow
grant_in r = record { variant = words (column r 1); slot = number (column r 2); channel = words (column r 3); supplier = words (column r 4); node = words (column r 5) }

abbrev pub of_frame : FrameRow → Row
of_frame f = Text f.variant ∷ Text f.supplier ∷ Text f.name ∷ Text f.node ∷ []

abbrev pub frame_in : Row → FrameRow
frame_in r = record { variant = words (column r 1); supplier = words (column r 2); name = words (column r 3); node = words (column r 4) }

abbrev pub of_placement : PlacementRow → Row
of_placement p = Text p.variant ∷ Text p.supplier ∷ Text p.frame ∷ Int p.slot ∷ Text p.channels ∷ Int p.base ∷ Int p.repetition ∷ []

abbrev pub placement_in : Row → PlacementRow
placement_in r = record {
  variant = words (column r 1);
  supplier = words (column r 2);
  frame = words (column r 3);
  slot = number (column r 4);
  channels = words (column r 5);
  base = number (column r 6);
  repetition = number (column r 7);
}

abbrev pub of_signal : SignalRow → Row
of_signal s = Text s.variant ∷ Text s.supplier ∷ Text s.frame ∷ Text s.name ∷ Int s.start ∷ Int s.length ∷ Int s.big ∷ []

abbrev pub signal_in : Row → SignalRow
signal_in r = record {
  variant = words (column r 1);
  supplier = words (column r 2);
  frame = words (column r 3);
  name = words (column r 4);
  start = number (column r 5);
  length = number (column r 6);
  big = number (column r 7);
}

abbrev pub of_import : ImportRow → Row
of_import i = Text i.supplier ∷ Text i.label ∷ Text i.variant ∷ Blob i.body ∷ Int i.rows ∷ []

abbrev pub import_in : Row → ImportRow
import_in r = record { supplier = words (column r 1); label = words (column r 2); variant = words (column r 3); body = bytes (column r 4); rows = number (column r 5) }

abbrev pub of_dropped : DroppedRow → Row
of_dropped d = Text d.variant ∷ Text d.supplier ∷ Text d.frame ∷ []

abbrev pub dropped_in : Row → DroppedRow
dropped_in r = record { variant = words (column r 1); supplier = words (column r 2); frame = words (column r 3) }
