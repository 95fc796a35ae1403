-- Statements: what each statement adds to its table, which rows it changes or deletes, and which
-- rows a query shows, in which order and with which columns.
use Rattle.std.specs.Prelude.{◌++◌, ◌&&◌, ℕ, ℤ, pos, Bool, true, not, List, [], ◌∷◌, map, filter, bytes_eq, if◌then◌else◌}
use Rattle.std.specs.List.{list_any}
use Rattle.std.specs.declared.cmp.Ordering.{Ordering}
use Rattle.std.specs.declared.cmp.Ordering.TheVariants.{Equal}
use Rattle.std.specs.Ordering.{on, then_cmp, nat_cmp, int_cmp, int_eq}
use Rattle.std.specs.Cmp.Lexicographic.{slice_cmp}
use Rattle.sqlite.specs.declared.types.Value.TheVariants.{Int, Text, Blob}
use Rattle.sqlite.specs.Order.{Row}
use Rattle.fr_base.specs.declared.placement.Placement.{Placement}
use Rattle.fr_base.specs.declared.params.RawParams.{RawParams}
use Rattle.fr_base.specs.declared.signal.Order.{Order}
use Rattle.fr_base.specs.declared.signal.Order.TheVariants.{Little, Big}
use Rattle.fr_base.specs.Signals.{SignalData}
use Rattle.fr_base.specs.Channels.{text_of_channels}
use Rattle.fr_tables.specs.Rows.{RegisterRow, ClusterRow, Cluster2Row, SupplierRow, NodeRow, VariantRow, GrantRow, FrameRow, PlacementRow, SignalRow, ImportRow, DroppedRow, of_maybe}
use Rattle.fr_tables.specs.declared.frame_key.FrameKey.{FrameKey}
use Rattle.fr_tables.specs.Tables.{Tables}

-- byte order
abbrev pub text_cmp : List ℕ → List ℕ → Ordering
text_cmp = slice_cmp nat_cmp

-- no order
abbrev pub any_order : {X : Type 0} → X → X → Ordering
any_order a b = Equal

abbrev pub every : {X : Type 0} → X → Bool
every x = true

-- ---- register, cluster

abbrev pub with_register : RegisterRow → Tables → Tables
with_register r t = record t { register = t.register ++ r ∷ [] }

abbrev pub shows_register : RegisterRow → Row
shows_register r = Int r.schema ∷ []

abbrev pub with_cluster : ClusterRow → Tables → Tables
with_cluster c t = record t { cluster = t.cluster ++ c ∷ [] }

abbrev pub shows_cluster : ClusterRow → Row
shows_cluster c =
    Int c.static_slots ∷ Int c.slot_macroticks ∷ Int c.dynamic_macroticks ∷ Int c.symbol_macroticks ∷ Int c.idle_macroticks ∷ Int c.macroticks_per_cycle ∷ Int c.payload_words
    ∷ Text c.channels ∷ Text c.integrator ∷ []

abbrev pub cluster_row : RawParams → List ℕ → ClusterRow
cluster_row p integrator = record {
  static_slots = pos p.static_slots;
  slot_macroticks = pos p.slot_macroticks;
  dynamic_macroticks = pos p.dynamic_macroticks;
  symbol_macroticks = pos p.symbol_macroticks;
  idle_macroticks = pos p.idle_macroticks;
  macroticks_per_cycle = pos p.macroticks_per_cycle;
  payload_words = pos p.payload_words;
  channels = text_of_channels p.channels;
  integrator = integrator;
}

abbrev pub with_cluster2 : Cluster2Row → Tables → Tables
with_cluster2 c t = record t { cluster2 = t.cluster2 ++ c ∷ [] }

abbrev pub shows_cluster2 : Cluster2Row → Row
shows_cluster2 c =
    Int c.static_slots ∷ Int c.slot_macroticks ∷ Int c.dynamic_macroticks ∷ Int c.symbol_macroticks ∷ Int c.idle_macroticks ∷ Int c.macroticks_per_cycle ∷ Int c.payload_words
    ∷ Text c.channels ∷ Text c.integrator ∷ Int c.cycles ∷ []

abbrev pub cluster2_row : RawParams → List ℕ → Cluster2Row
cluster2_row p integrator = record {
  static_slots = pos p.static_slots;
  slot_macroticks = pos p.slot_macroticks;
  dynamic_macroticks = pos p.dynamic_macroticks;
  symbol_macroticks = pos p.symbol_macroticks;
  idle_macroticks = pos p.idle_macroticks;
  macroticks_per_cycle = pos p.macroticks_per_cycle;
  payload_words = pos p.payload_words;
  channels = text_of_channels p.channels;
  integrator = integrator;
  cycles = pos p.cycles;
}

-- the tables with this number of the schema
abbrev pub with_number : ℤ → Tables → Tables
with_number n t = record t { register = map (λ r. record { schema = n }) t.register }

-- the tables without the row that says what the cluster is
abbrev pub without_cluster : Tables → Tables
without_cluster t = record t { cluster = [] }

-- ---- suppliers

abbrev pub with_supplier : SupplierRow → Tables → Tables
with_supplier s t = record t { suppliers = t.suppliers ++ s ∷ [] }

abbrev pub is_supplier : List ℕ → SupplierRow → Bool
is_supplier name s = bytes_eq s.name name

abbrev pub keyed_row : List ℕ → SupplierRow → SupplierRow
keyed_row key s = record s { key = key }

-- the tables where the supplier has this key
abbrev pub with_key : List ℕ → List ℕ → Tables → Tables
with_key name key t = record t { suppliers = map (λ s. if is_supplier name s then keyed_row key s else s) t.suppliers }

abbrev pub shows_supplier : SupplierRow → Row
shows_supplier s = Text s.name ∷ Text s.key ∷ []

abbrev pub suppliers_cmp : SupplierRow → SupplierRow → Ordering
suppliers_cmp = on (λ s. s.name) text_cmp

-- ---- nodes

abbrev pub with_node : NodeRow → Tables → Tables
with_node n t = record t { nodes = t.nodes ++ n ∷ [] }

abbrev pub is_node_of : List ℕ → NodeRow → Bool
is_node_of supplier n = bytes_eq n.supplier supplier

abbrev pub shows_node : NodeRow → Row
shows_node n = Text n.name ∷ []

abbrev pub nodes_cmp : NodeRow → NodeRow → Ordering
nodes_cmp = on (λ n. n.name) text_cmp

-- ---- variants

abbrev pub with_variant : VariantRow → Tables → Tables
with_variant v t = record t { variants = t.variants ++ v ∷ [] }

abbrev pub is_variant : List ℕ → VariantRow → Bool
is_variant name v = bytes_eq v.name name

abbrev pub released_row : VariantRow → VariantRow
released_row v = record v { released = pos 1 }

abbrev pub with_released : List ℕ → Tables → Tables
with_released name t = record t { variants = map (λ v. if is_variant name v then released_row v else v) t.variants }

abbrev pub shows_variant : VariantRow → Row
shows_variant v = Text v.name ∷ of_maybe v.parent ∷ Int v.depth ∷ Int v.released ∷ Int v.overlay ∷ []

abbrev pub variants_cmp : VariantRow → VariantRow → Ordering
variants_cmp = on (λ v. v.name) text_cmp

-- ---- grants

abbrev pub with_grant : GrantRow → Tables → Tables
with_grant g t = record t { grants = t.grants ++ g ∷ [] }

abbrev pub with_grants : List GrantRow → Tables → Tables
with_grants gs t = record t { grants = t.grants ++ gs }

abbrev pub is_grant_at : List ℕ → ℤ → List ℕ → GrantRow → Bool
is_grant_at variant slot channel g = bytes_eq g.variant variant && (int_eq g.slot slot && bytes_eq g.channel channel)

abbrev pub without_grant : List ℕ → ℤ → List ℕ → Tables → Tables
without_grant variant slot channel t = record t { grants = filter (λ g. not (is_grant_at variant slot channel g)) t.grants }

abbrev pub is_grant_of : List ℕ → List ℕ → GrantRow → Bool
is_grant_of variant supplier g = bytes_eq g.variant variant && bytes_eq g.supplier supplier

abbrev pub shows_grant : GrantRow → Row
shows_grant g = Int g.slot ∷ Text g.channel ∷ Text g.node ∷ []

abbrev pub shows_holder : GrantRow → Row
shows_holder g = Text g.supplier ∷ Text g.node ∷ []

abbrev pub grant_for : List ℕ → GrantRow → GrantRow
grant_for variant g = record g { variant = variant }

-- the grants of the first variant, as grants of the second
abbrev pub grants_for : List ℕ → List ℕ → Tables → List GrantRow
grants_for parent child t = map (grant_for child) (filter (λ g. bytes_eq g.variant parent) t.grants)

-- ---- frames

abbrev pub with_frame : FrameRow → Tables → Tables
with_frame f t = record t { frames = t.frames ++ f ∷ [] }

abbrev pub row_of_frame : FrameKey → List ℕ → FrameRow
row_of_frame key node = record { variant = key.variant; supplier = key.supplier; name = key.frame; node = node }

abbrev pub with_frames : List FrameRow → Tables → Tables
with_frames fs t = record t { frames = t.frames ++ fs }

abbrev pub is_frame : FrameKey → FrameRow → Bool
is_frame key f = bytes_eq f.variant key.variant && (bytes_eq f.supplier key.supplier && bytes_eq f.name key.frame)

abbrev pub is_placement_of : FrameKey → PlacementRow → Bool
is_placement_of key p = bytes_eq p.variant key.variant && (bytes_eq p.supplier key.supplier && bytes_eq p.frame key.frame)

abbrev pub is_signal_of : FrameKey → SignalRow → Bool
is_signal_of key s = bytes_eq s.variant key.variant && (bytes_eq s.supplier key.supplier && bytes_eq s.frame key.frame)

-- the tables without the frame, its placements and its signals
abbrev pub without_frame : FrameKey → Tables → Tables
without_frame key t = record t {
  frames = filter (λ f. not (is_frame key f)) t.frames;
  placements = filter (λ p. not (is_placement_of key p)) t.placements;
  signals = filter (λ s. not (is_signal_of key s)) t.signals;
}

abbrev pub is_frame_of : List ℕ → List ℕ → FrameRow → Bool
is_frame_of variant supplier f = bytes_eq f.variant variant && bytes_eq f.supplier supplier

abbrev pub shows_frame : FrameRow → Row
shows_frame f = Text f.name ∷ Text f.node ∷ []

abbrev pub frames_cmp : FrameRow → FrameRow → Ordering
frames_cmp = on (λ f. f.name) text_cmp

abbrev pub frame_for : List ℕ → FrameRow → FrameRow
frame_for variant f = record f { variant = variant }

-- the row of the same frame in another variant, as a row of this one
abbrev pub frame_copies : List ℕ → FrameKey → Tables → List FrameRow
frame_copies from to t = map (frame_for to.variant) (filter (is_frame (record to { variant = from })) t.frames)

-- ---- placements

abbrev pub placement_row : FrameKey → Placement → PlacementRow
placement_row key q = record {
  variant = key.variant;
  supplier = key.supplier;
  frame = key.frame;
  slot = pos q.slot;
  channels = text_of_channels q.channels;
  base = pos q.cycles.base;
  repetition = pos q.cycles.repetition;
}

abbrev pub with_placement : PlacementRow → Tables → Tables
with_placement p t = record t { placements = t.placements ++ p ∷ [] }

abbrev pub with_placements : List PlacementRow → Tables → Tables
with_placements ps t = record t { placements = t.placements ++ ps }

abbrev pub is_placement : PlacementRow → PlacementRow → Bool
is_placement q p =
    bytes_eq p.variant q.variant && (bytes_eq p.supplier q.supplier && (bytes_eq p.frame q.frame && (int_eq p.slot q.slot && (bytes_eq p.channels q.channels
    && (int_eq p.base q.base && int_eq p.repetition q.repetition)))))

abbrev pub without_placement : PlacementRow → Tables → Tables
without_placement q t = record t { placements = filter (λ p. not (is_placement q p)) t.placements }

abbrev pub is_placed_by : List ℕ → List ℕ → PlacementRow → Bool
is_placed_by variant supplier p = bytes_eq p.variant variant && bytes_eq p.supplier supplier

abbrev pub shows_placement : PlacementRow → Row
shows_placement p = Text p.frame ∷ Int p.slot ∷ Text p.channels ∷ Int p.base ∷ Int p.repetition ∷ []

-- the order of placements' rows: by frame, then in the order of placements
abbrev pub placements_cmp : PlacementRow → PlacementRow → Ordering
placements_cmp =
    then_cmp (on (λ p. p.frame) text_cmp) (then_cmp (on (λ p. p.slot) int_cmp) (then_cmp (on (λ p. p.channels) text_cmp) (then_cmp (on (λ p. p.base) int_cmp) (on (λ p. p.repetition) int_cmp))))

abbrev pub placement_for : List ℕ → PlacementRow → PlacementRow
placement_for variant p = record p { variant = variant }

-- the placements of the same frame in another variant, as placements in this one
abbrev pub placement_copies : List ℕ → FrameKey → Tables → List PlacementRow
placement_copies from to t = map (placement_for to.variant) (filter (is_placement_of (record to { variant = from })) t.placements)

-- ---- signals

abbrev pub big_number : Order → ℤ
big_number Little = pos 0
big_number Big = pos 1

abbrev pub signal_row : FrameKey → SignalData → SignalRow
signal_row key s = record {
  variant = key.variant;
  supplier = key.supplier;
  frame = key.frame;
  name = s.name;
  start = pos s.start;
  length = pos s.length;
  big = big_number s.order;
}

abbrev pub with_signal : SignalRow → Tables → Tables
with_signal s t = record t { signals = t.signals ++ s ∷ [] }

abbrev pub with_signals : List SignalRow → Tables → Tables
with_signals ss t = record t { signals = t.signals ++ ss }

abbrev pub is_signal : FrameKey → List ℕ → SignalRow → Bool
is_signal key name s = bytes_eq s.variant key.variant && (bytes_eq s.supplier key.supplier && (bytes_eq s.frame key.frame && bytes_eq s.name name))

abbrev pub without_signal : FrameKey → List ℕ → Tables → Tables
without_signal key name t = record t { signals = filter (λ s. not (is_signal key name s)) t.signals }

abbrev pub is_signalled_by : List ℕ → List ℕ → SignalRow → Bool
is_signalled_by variant supplier s = bytes_eq s.variant variant && bytes_eq s.supplier supplier

abbrev pub shows_signal : SignalRow → Row
shows_signal s = Text s.frame ∷ Text s.name ∷ Int s.start ∷ Int s.length ∷ Int s.big ∷ []

-- the order of signals' rows: by frame, then by name
abbrev pub signals_cmp : SignalRow → SignalRow → Ordering
signals_cmp = then_cmp (on (λ s. s.frame) text_cmp) (on (λ s. s.name) text_cmp)

abbrev pub signal_for : List ℕ → SignalRow → SignalRow
signal_for variant s = record s { variant = variant }

-- the signals of the same frame in another variant, as signals in this one
abbrev pub signal_copies : List ℕ → FrameKey → Tables → List SignalRow
signal_copies from to t = map (signal_for to.variant) (filter (is_signal_of (record to { variant = from })) t.signals)

-- ---- imports

abbrev pub with_import : ImportRow → Tables → Tables
with_import i t = record t { imports = t.imports ++ i ∷ [] }

abbrev pub is_import : List ℕ → List ℕ → ImportRow → Bool
is_import supplier label i = bytes_eq i.supplier supplier && bytes_eq i.label label

abbrev pub is_import_of : List ℕ → ImportRow → Bool
is_import_of supplier i = bytes_eq i.supplier supplier

abbrev pub shows_import : ImportRow → Row
shows_import i = Text i.variant ∷ Blob i.body ∷ Int i.rows ∷ []

abbrev pub shows_label : ImportRow → Row
shows_label i = Text i.label ∷ []

abbrev pub labels_cmp : ImportRow → ImportRow → Ordering
labels_cmp = on (λ i. i.label) text_cmp

-- ---- dropped

abbrev pub is_dropped : FrameKey → DroppedRow → Bool
is_dropped key d = bytes_eq d.variant key.variant && (bytes_eq d.supplier key.supplier && bytes_eq d.frame key.frame)

-- the tables with the row, which is added unless it is there
abbrev pub with_dropped : DroppedRow → Tables → Tables
with_dropped d t = record t { dropped = if list_any (is_dropped d) t.dropped then t.dropped else t.dropped ++ d ∷ [] }

abbrev pub is_dropped_by : List ℕ → List ℕ → DroppedRow → Bool
is_dropped_by variant supplier d = bytes_eq d.variant variant && bytes_eq d.supplier supplier

abbrev pub shows_dropped : DroppedRow → Row
shows_dropped d = Text d.frame ∷ []

abbrev pub dropped_cmp : DroppedRow → DroppedRow → Ordering
dropped_cmp = on (λ d. d.frame) text_cmp
