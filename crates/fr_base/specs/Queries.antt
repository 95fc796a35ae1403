-- Query: an actor sees its own rows, and the integrator those of all suppliers. Of the register these are the cluster's
-- figures with the suppliers, the variants, and the nodes; of a variant grants, frames, schedule, gaps, layouts, the load,
-- its rows of all kinds, the room for a frame, and records for a file, each in its order; and in what two variants differ.
use Rattle.std.specs.Prelude.{ℕ, ◌==◌, List, [], ◌∷◌, ◌++◌, map, codes, Option, Some, None, Result, Ok, Err, ⊤}
use Rattle.std.specs.Option.{option_map_or}
use Rattle.std.specs.List.{flat_map}
use Rattle.fr_base.specs.Forms.{of_variant}
use Rattle.fr_base.specs.QueryNames.{Question, word_of_query}
use Rattle.fr_base.specs.Refusing.{◌>>=◌, ◌>>◌, ◌or◌, refuse◌when◌}
use Rattle.fr_base.specs.Tables.{Table, get, len, only}
use Rattle.fr_base.specs.Keys.{names, owned, channel_slots}
use Rattle.fr_base.specs.Cells.{Cell, cluster_cells}
use Rattle.fr_base.specs.Schedule.{entries}
use Rattle.fr_base.specs.Moments.{greatest_gap}
use Rattle.fr_base.specs.Seen.{seen_suppliers, seen_nodes, seen_grants, seen_frames}
use Rattle.fr_base.specs.Exports.{exported}
use Rattle.fr_base.specs.Differences.{seen_rows, differences}
use Rattle.fr_base.specs.Load.{load_of}
use Rattle.fr_base.specs.Room.{own_room}
use Rattle.fr_base.specs.Checks.{is_integrator}
use Rattle.fr_base.specs.Names.{same_text}
use Rattle.fr_base.specs.Book.{Holder, Frame, Variant, Book, Sender, own, own_grants, schedule_of}
use Rattle.fr_base.specs.declared.channel.Channel.{Channel}
use Rattle.fr_base.specs.declared.name.Name.{Name}
use Rattle.fr_base.specs.declared.params.Params.{Params}
use Rattle.fr_base.specs.declared.placement.Placement.{Placement}
use Rattle.fr_base.specs.declared.answer.Answer.{Answer}
use Rattle.fr_base.specs.declared.answer.Answer.TheVariants as answer
use Rattle.fr_base.specs.declared.answer.ReportRows.{ReportRows}
use Rattle.fr_base.specs.declared.answer.ReportRows.TheVariants as rows
use Rattle.fr_base.specs.declared.answer.ClusterRow.{ClusterRow}
use Rattle.fr_base.specs.declared.answer.ClusterRow.TheVariants as cluster
use Rattle.fr_base.specs.declared.answer.Figure.{Figure}
use Rattle.fr_base.specs.declared.answer.Figure.TheVariants.{StaticSlots, SlotMacroticks, DynamicMacroticks, SymbolMacroticks, IdleMacroticks, MacroticksPerCycle, PayloadWords, Cycles}
use Rattle.fr_base.specs.declared.answer.VariantRow.{VariantRow}
use Rattle.fr_base.specs.declared.answer.NodeRow.{NodeRow}
use Rattle.fr_base.specs.declared.answer.GrantRow.{GrantRow}
use Rattle.fr_base.specs.declared.answer.FrameRow.{FrameRow}
use Rattle.fr_base.specs.declared.answer.Sending.{Sending}
use Rattle.fr_base.specs.declared.answer.GapRow.{GapRow}
use Rattle.fr_base.specs.declared.answer.SignalRow.{SignalRow}
use Rattle.fr_base.specs.declared.refusal.Refusal.{Refusal}
use Rattle.fr_base.specs.declared.refusal.Refusal.TheVariants.{NotYours, NoVariant, Released, NoFrame, Unavailable}
use Rattle.fr_base.specs.declared.import.Header.TheVariants as header
use Rattle.fr_base.specs.declared.actor.Actor.{Actor}
use Rattle.fr_base.specs.declared.actor.Actor.TheVariants.{Integrator, Supplier}
use Rattle.fr_base.specs.declared.field_name.FieldName.TheVariants as field
use Rattle.fr_base.specs.declared.key.Key.{Key}
use Rattle.fr_base.specs.declared.query.Query.{Query}
use Rattle.fr_base.specs.declared.query.Query.TheVariants.{Register as OfRegister, Variant as OfVariant, Difference}
use Rattle.fr_base.specs.declared.query.Inventory.{Inventory}
use Rattle.fr_base.specs.declared.query.Inventory.TheVariants.{Cluster as TheCluster, Variants, Nodes}
use Rattle.fr_base.specs.declared.report.Report.{Report}
use Rattle.fr_base.specs.declared.report.Report.TheVariants.{Grants, Frames, Schedule, Gaps, Layout, Load, Rows, Room, Export}

-- what is asked, if it has these rows for an answer; those of a trial or a proposal answer no query
abbrev pub question_of : ReportRows → Option Question
question_of (rows.Cluster _) = Some (OfRegister TheCluster)
question_of (rows.Variants _) = Some (OfRegister Variants)
question_of (rows.Nodes _) = Some (OfRegister Nodes)
question_of (rows.Grants _) = Some (of_variant Grants)
question_of (rows.Frames _) = Some (of_variant Frames)
question_of (rows.Schedule _) = Some (of_variant Schedule)
question_of (rows.Gaps _) = Some (of_variant Gaps)
question_of (rows.Layout _) = Some (of_variant (Layout field.Frame))
question_of (rows.Load _) = Some (of_variant Load)
question_of (rows.Seen _) = Some (of_variant Rows)
question_of (rows.Room _) = Some (of_variant (Room field.Frame field.Repetition))
question_of (rows.FrameRecords _) = Some (of_variant (Export header.Frames field.Part))
question_of (rows.PlacementRecords _) = Some (of_variant (Export header.Placements field.Part))
question_of (rows.SignalRecords _) = Some (of_variant (Export header.Signals field.Part))
question_of (rows.Difference _) = Some (Difference field.Variant field.From)
question_of (rows.Fates _) = None
question_of (rows.Proposal _ _) = None

-- the word of a file that is answered by rows: that of a proposal, else of a trial
abbrev pub word_of_file : ReportRows → List ℕ
word_of_file (rows.Proposal _ _) = codes "propose"
word_of_file _ = codes "try"

-- the name of the report that has these rows: the word by which it is asked for
abbrev pub name_of_rows : ReportRows → List ℕ
name_of_rows rows = option_map_or word_of_query (question_of rows) (word_of_file rows)

-- a frame's placements, in order
abbrev pub placements_in : Frame → List Placement
placements_in frame = map (λ q. q.0) frame.placements.rows

-- ---- rows

-- the key of a figure in a cluster file
abbrev pub key_of_figure : Figure → List ℕ
key_of_figure StaticSlots = codes "static_slots"
key_of_figure SlotMacroticks = codes "slot_macroticks"
key_of_figure DynamicMacroticks = codes "dynamic_macroticks"
key_of_figure SymbolMacroticks = codes "symbol_macroticks"
key_of_figure IdleMacroticks = codes "idle_macroticks"
key_of_figure MacroticksPerCycle = codes "macroticks_per_cycle"
key_of_figure PayloadWords = codes "payload_words"
key_of_figure Cycles = codes "cycles"

-- the figures of a cluster file, in their order
abbrev pub figures : Params → List ClusterRow
figures p =
    cluster.Channels p.channels
    ∷ cluster.Number StaticSlots p.static_slots
    ∷ cluster.Number SlotMacroticks p.slot_macroticks
    ∷ cluster.Number DynamicMacroticks p.dynamic_macroticks
    ∷ cluster.Number SymbolMacroticks p.symbol_macroticks
    ∷ cluster.Number IdleMacroticks p.idle_macroticks
    ∷ cluster.Number MacroticksPerCycle p.macroticks_per_cycle
    ∷ cluster.Number PayloadWords p.payload_words
    ∷ cluster.Number Cycles p.cycles
    ∷ []

-- the figures of the cluster, and the suppliers, by name
unfoldable pub cluster_of : Params → Table names Key → List ClusterRow
cluster_of p suppliers = figures p ++ map (λ e. cluster.Supplier e.0) suppliers.rows

abbrev pub variant_row : Name × Variant → VariantRow
variant_row e = record { variant = e.0; parent = e.1.parent; depth = e.1.depth; released = e.1.released }

-- the variants, by name
unfoldable pub variants_of : Table names Variant → List VariantRow
variants_of variants = map variant_row variants.rows

abbrev pub node_row : (Name × Name) × ⊤ → NodeRow
node_row e = record { node = e.0.1; supplier = e.0.0 }

-- the nodes, by supplier and name
unfoldable pub nodes_of : Table owned ⊤ → List NodeRow
nodes_of nodes = map node_row nodes.rows

abbrev pub grant_row : (ℕ × Channel) × Holder → GrantRow
grant_row e = record { slot = e.0.0; channel = e.0.1; node = e.1.node; supplier = e.1.supplier }

abbrev pub frame_row : (Name × Name) × Frame → FrameRow
frame_row e = record { frame = e.0.1; node = e.1.node; supplier = e.0.0; placements = placements_in e.1 }

abbrev pub sending : Cell × Sender → Sending
sending e = record { cycle = e.0.cycle; slot = e.0.slot; channel = e.0.channel; frame = e.1.frame; node = e.1.node; supplier = e.1.supplier }

abbrev pub gap_row : Params → (Name × Name) × Frame → GapRow
gap_row p e = record { frame = e.0.1; supplier = e.0.0; gap = greatest_gap p (placements_in e.1) }

abbrev pub signal_rows : (Name × Name) × Frame → List SignalRow
signal_rows e = map (λ s. record { supplier = e.0.0; signal = s }) e.1.signals

-- the grants, by slot and channel
unfoldable pub grants_of : Table channel_slots Holder → List GrantRow
grants_of grants = map grant_row grants.rows

-- the frames, by supplier and name
unfoldable pub frames_of : Table owned Frame → List FrameRow
frames_of frames = map frame_row frames.rows

-- the frames' schedule, by cycle, slot and channel. In a sound book a frame that fills a cell of its own schedule fills
-- it in that of all suppliers too.
unfoldable pub sendings_of : Params → Table owned Frame → List Sending
sendings_of p frames = map sending (entries (schedule_of frames) (cluster_cells p))

-- the frames' greatest gaps, by supplier and name
unfoldable pub gaps_of : Params → Table owned Frame → List GapRow
gaps_of p frames = map (gap_row p) frames.rows

-- the frames of this name, by supplier
unfoldable pub named : Name → Table owned Frame → Table owned Frame
named f frames = only (λ k _. same_text k.1 f) frames

-- the frames' signals, by supplier, then start
unfoldable pub signals_of : Table owned Frame → List SignalRow
signals_of frames = flat_map signal_rows frames.rows

-- ---- answers

-- what the register holds, as the actor sees it
unfoldable pub held : Params → Book → Actor → Inventory → ReportRows
held p b actor TheCluster = rows.Cluster (cluster_of p (seen_suppliers actor b.suppliers))
held p b actor Variants = rows.Variants (variants_of b.variants)
held p b actor Nodes = rows.Nodes (nodes_of (seen_nodes actor b.nodes))

-- what a report shows the actor of the variant
unfoldable pub shown : Params → Actor → Variant → Report Name ℕ → Result ReportRows Refusal
shown p actor variant Grants = Ok (rows.Grants (grants_of (seen_grants actor variant.grants)))
shown p actor variant Frames = Ok (rows.Frames (frames_of (seen_frames actor variant.frames)))
shown p actor variant Schedule = Ok (rows.Schedule (sendings_of p (seen_frames actor variant.frames)))
shown p actor variant Gaps = Ok (rows.Gaps (gaps_of p (seen_frames actor variant.frames)))
shown p actor variant (Layout f) = do
  refuse NoFrame when len (named f (seen_frames actor variant.frames)) == 0
  Ok (rows.Layout (signals_of (named f (seen_frames actor variant.frames))))
shown p actor variant Load = Ok (rows.Load (load_of p actor (seen_grants actor variant.grants) (seen_frames actor variant.frames)))
shown p actor variant Rows = Ok (rows.Seen (seen_rows p actor variant))
shown p Integrator variant (Room f repetition) = Err NotYours
shown p (Supplier s) variant (Room f repetition) = do
  refuse Released when variant.released
  places ← own_room p (own_grants s variant.grants) (own s variant.frames) s f repetition
  Ok (rows.Room places)
shown p actor variant (Export header part) = Ok (exported header part (seen_frames actor variant.frames).rows)

-- the rows of a query's answer
unfoldable pub found : Params → Book → Actor → Query Name ℕ → Result ReportRows Refusal
found p b actor (OfRegister inventory) = Ok (held p b actor inventory)
found p b actor (OfVariant v report) = do
  variant ← get b.variants v or NoVariant
  shown p actor variant report
found p b actor (Difference v from) = do
  new ← get b.variants v or NoVariant
  old ← get b.variants from or NoVariant
  Ok (rows.Difference (differences p actor old new))

-- the answer to a query
unfoldable pub reply : Params → Book → Actor → Query Name ℕ → Result Answer Refusal
reply p b actor query = do
  rows ← found p b actor query
  Ok (answer.Report (is_integrator actor) rows)

-- the rows of a report, or why it was refused; another answer has none
abbrev pub rows_in : Answer → Result ReportRows Refusal
rows_in (answer.Report all rows) = Ok rows
rows_in (answer.Refused refusal) = Err refusal
rows_in _ = Err Unavailable
