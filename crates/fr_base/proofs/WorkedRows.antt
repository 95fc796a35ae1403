-- The definitions computed on small registers.
use Rattle.std.proofs.Common.{◌≡◌, ℕ, List, [], ◌∷◌, ◌++◌, false, true, Option, Some, None, map, filter, refl, codes}
use Rattle.std.specs.Prelude.{Bool, ⊤, ◌+◌, ◌/◌, ◌%◌}
use Rattle.std.specs.List.{range_with_len}
use Rattle.fr_base.specs.Refusing.{◌>>=◌, ◌>>◌, ◌or◌, refuse◌when◌}
use Rattle.fr_base.specs.Tables.{empty, get, len, insert, only, remove, from_rows, settle}
use Rattle.fr_base.specs.Keys.{numbers, names, channel_order, channels_order, owned, channel_slots, placement_order}
use Rattle.fr_base.specs.Names.{is_name, is_key}
use Rattle.fr_base.specs.Cycles.{Cycles, is_cycle_count, is_repetition, is_cycle_set, all_cycles, cycles_of, has_cycle, first_common}
use Rattle.fr_base.specs.Checks.{asking, key, name, cycles, slot, channel, channels, placement, purpose, signal, beginning, query, check}
use Rattle.fr_base.specs.Cells.{cells_of, has_cell, cluster_cells}
use Rattle.fr_base.specs.Schedule.{fill, first_taken, entries}
use Rattle.fr_base.specs.Cluster.{ClusterFile}
use Rattle.fr_base.specs.Actors.{actor_of}
use Rattle.fr_base.specs.Alone.{answers_to, book_after}
use Rattle.fr_base.specs.Book.{empty_variant, suppliers_of, opening, granted, placements_of, schedule_of}
use Rattle.fr_base.specs.Step.{begun, common, has_key, add_supplier, set_key, add_node, own_rows, shared_by, in_use, cell_taken, admits_frame, admits, grants_after, frame_after, frames_after, changed, change_rows, done, perform, deliver, act, outcome, step}
use Rattle.fr_base.specs.Queries.{grants_of, frames_of, sendings_of, gaps_of, named, signals_of, cluster_of, variants_of, nodes_of, held, shown, found, reply}
use Rattle.fr_base.specs.Moments.{ring, moment, moments, gaps, greatest_gap}
use Rattle.fr_base.specs.Bits.{bits_of}
use Rattle.fr_base.specs.Layouts as layouts
use Rattle.fr_base.specs.declared.limits.TheConstants.{MAX_SUPPLIERS, MAX_NODES, MAX_VARIANTS, MAX_DEPTH, MAX_FRAMES, MAX_PLACEMENTS, MAX_SIGNALS, MAX_PAYLOAD_WORDS, MAX_IMPORTS, MAX_IMPORT_BYTES, MAX_ROWS}
use Rattle.fr_base.specs.declared.answer.Answer.{Answer}
use Rattle.fr_base.specs.declared.answer.Answer.TheVariants.{Done, Refused, Report as Told}
use Rattle.fr_base.specs.declared.answer.ReportRows.TheVariants as rows
use Rattle.fr_base.specs.declared.answer.ClusterRow.{ClusterRow}
use Rattle.fr_base.specs.declared.answer.ClusterRow.TheVariants as cluster
use Rattle.fr_base.specs.declared.answer.Figure.TheVariants as figure
use Rattle.fr_base.specs.declared.answer.GrantRow.{GrantRow}
use Rattle.fr_base.specs.declared.answer.FrameRow.{FrameRow}
use Rattle.fr_base.specs.declared.answer.Sending.{Sending}
use Rattle.fr_base.specs.declared.answer.GapRow.{GapRow}
use Rattle.fr_base.specs.declared.answer.SignalRow.{SignalRow}
use Rattle.fr_base.specs.declared.channel.Channel.TheVariants as ch
use Rattle.fr_base.specs.declared.channel.Channels.TheVariants as chs
use Rattle.fr_base.specs.declared.refusal.Refusal.TheVariants.{UnknownKey, NotYours, BadName, BadCycles, BadSlot, BadChannel, BadSignal, NoVariant, Released, NotReleased, TooDeep, NoSupplier, NoNode, NoFrame, NoSignal, NoPlacement, NotGranted, InUse, Exists, NodeDiffers, Limit, Taken, CellTaken, OutOfPayload, BitTaken, BadKey, KeyTaken}
use Rattle.fr_base.specs.declared.actor.Actor.TheVariants.{Integrator, Supplier}
use Rattle.fr_base.specs.declared.actor.Actor.{Actor}
use Rattle.fr_base.specs.declared.request.Ask.{Ask}
use Rattle.fr_base.specs.declared.request.Request.{Request}
use Rattle.fr_base.specs.declared.beginning.Beginning.TheVariants.{Empty, From, Flat}
use Rattle.fr_base.specs.declared.request.Request.TheVariants.{OpenVariant, Release, AddNode, Grant, Revoke, AddFrame, DropFrame, Place, Unplace, AddSignal, DropSignal, AddSupplier, SetKey, Query}
use Rattle.fr_base.specs.declared.query.Query.TheVariants.{Register as OfRegister, Variant as OfVariant}
use Rattle.fr_base.specs.declared.query.Inventory.TheVariants as listed
use Rattle.fr_base.specs.declared.report.Report.TheVariants.{Grants, Frames, Schedule, Gaps, Layout}
use Rattle.fr_base.specs.declared.signal.Order.TheVariants as order

-- the most that a register holds: suppliers, nodes of a supplier, variants, depth, frames of a supplier, placements and signals of
-- a frame, words of a payload, imports of a supplier, bytes and rows of an import's file
pub the_limits :
    MAX_SUPPLIERS ∷ MAX_NODES ∷ MAX_VARIANTS ∷ MAX_DEPTH ∷ MAX_FRAMES ∷ MAX_PLACEMENTS ∷ MAX_SIGNALS ∷ MAX_PAYLOAD_WORDS ∷ MAX_IMPORTS ∷ MAX_IMPORT_BYTES ∷ MAX_ROWS ∷ []
    ≡ 64 ∷ 64 ∷ 64 ∷ 16 ∷ 256 ∷ 8 ∷ 64 ∷ 127 ∷ 1000 ∷ 65536 ∷ 512 ∷ []
the_limits = refl

-- the cycles of a base and a repetition, of 64 and of other counts
abbrev cycle_set : ℕ → ℕ → Cycles
cycle_set base repetition = record { count = 64; base = base; repetition = repetition }

abbrev of_count : ℕ → ℕ → ℕ → Cycles
of_count n base repetition = record { count = n; base = base; repetition = repetition }

-- the least cycle of both sets
pub least_common_cycle :
    first_common (cycle_set 1 2) (cycle_set 3 4)
    ∷ first_common (cycle_set 0 2) (cycle_set 1 4)
    ∷ first_common (cycle_set 0 1) (cycle_set 63 64)
    ∷ []
    ≡ Some 3 ∷ None ∷ Some 63 ∷ []
unfolding first_common has_cycle cycles_of all_cycles
least_common_cycle = refl

-- of 12 cycles, and of sets of different counts
pub least_common_of_others :
    first_common (of_count 12 0 4) (of_count 12 2 6)
    ∷ first_common (of_count 12 1 4) (of_count 12 2 6)
    ∷ first_common (of_count 12 0 3) (of_count 12 2 4)
    ∷ first_common (of_count 12 0 3) (of_count 64 7 8)
    ∷ first_common (of_count 10 9 10) (of_count 8 1 2)
    ∷ []
    ≡ Some 8 ∷ None ∷ Some 6 ∷ None ∷ None ∷ []
unfolding first_common has_cycle cycles_of all_cycles
least_common_of_others = refl

-- which sets of cycles there are: the base below the repetition, the repetition a divisor of the count
pub sets_of_cycles :
    map (λ s. is_cycle_set s.count s.base s.repetition) (cycle_set 0 1 ∷ cycle_set 63 64 ∷ cycle_set 2 2 ∷ cycle_set 0 3 ∷ cycle_set 0 128 ∷ cycle_set 0 0 ∷ of_count 12 0 8 ∷ of_count 48 47 48 ∷ of_count 48 0 32 ∷ [])
    ≡ true ∷ true ∷ false ∷ false ∷ false ∷ false ∷ false ∷ true ∷ false ∷ []
sets_of_cycles = refl

-- the repetitions of 64 cycles
pub repetitions : filter (is_repetition 64) (all_cycles 100) ≡ 1 ∷ 2 ∷ 4 ∷ 8 ∷ 16 ∷ 32 ∷ 64 ∷ []
unfolding all_cycles
repetitions = refl

-- the counts of cycles
pub counts : map is_cycle_count (6 ∷ 7 ∷ 8 ∷ 9 ∷ 64 ∷ 66 ∷ []) ≡ false ∷ false ∷ true ∷ false ∷ true ∷ false ∷ []
counts = refl

-- two channels, four slots of ten macroticks, two suppliers
unfoldable pub file : ClusterFile
file = record {
  cluster = record { params = record { channels = chs.AB; static_slots = 4; slot_macroticks = 10; dynamic_macroticks = 40; symbol_macroticks = 10; idle_macroticks = 10; macroticks_per_cycle = 100; payload_words = 1; cycles = 64 }; integrator = codes "integrator1" };
  suppliers = record { name = codes "s1"; key = codes "supplier01" } ∷ record { name = codes "s2"; key = codes "supplier02" } ∷ [];
}

-- the answers of a new register
unfoldable pub answers : List Ask → List Answer
unfolding file
answers asks = answers_to file.cluster (opening file) asks

-- what the rows below unfold
unfoldable pub a_small_register : ⊤
unfolding file answers ◌>>=◌ ◌>>◌ ◌or◌ refuse◌when◌ empty get len insert only remove from_rows settle numbers names channel_order channels_order owned channel_slots placement_order is_name is_key all_cycles cycles_of asking key name cycles slot channel channels placement purpose signal beginning query check cells_of has_cell cluster_cells fill first_taken entries empty_variant suppliers_of opening granted placements_of schedule_of begun common has_key add_supplier set_key add_node own_rows shared_by in_use cell_taken admits_frame admits grants_after frame_after frames_after changed change_rows done perform grants_of frames_of sendings_of gaps_of named signals_of cluster_of variants_of nodes_of held shown found reply ring moment moments gaps greatest_gap bits_of layouts.first_taken_bit layouts.admits_signal deliver act outcome step
a_small_register = tt

-- a report's answer, by whether the integrator asked
abbrev pub Holds : Bool → List GrantRow → Answer
Holds all grants = Told all (rows.Grants grants)

abbrev pub Framed : Bool → List FrameRow → Answer
Framed all frames = Told all (rows.Frames frames)

abbrev pub Sent : Bool → List Sending → Answer
Sent all sendings = Told all (rows.Schedule sendings)

abbrev pub Longest : Bool → List GapRow → Answer
Longest all gaps = Told all (rows.Gaps gaps)

abbrev pub Laid : Bool → List SignalRow → Answer
Laid all signals = Told all (rows.Layout signals)

abbrev pub integrator : Request → Ask
integrator r = record { actor = Integrator; request = r }

abbrev pub s1 : Request → Ask
s1 r = record { actor = Supplier (codes "s1"); request = r }

abbrev pub s2 : Request → Ask
s2 r = record { actor = Supplier (codes "s2"); request = r }

-- a variant, a node of `s1`, and a grant of a slot and channel to it
abbrev with_a_grant : List Ask
with_a_grant =
    integrator (OpenVariant (codes "v1") Empty)
    ∷ integrator (AddNode (codes "s1") (codes "n1"))
    ∷ integrator (Grant (codes "v1") 1 (codes "A") (codes "s1") (codes "n1"))
    ∷ []

-- the figures of its cluster file
abbrev the_figures : List ClusterRow
the_figures =
    cluster.Channels chs.AB
    ∷ cluster.Number figure.StaticSlots 4
    ∷ cluster.Number figure.SlotMacroticks 10
    ∷ cluster.Number figure.DynamicMacroticks 40
    ∷ cluster.Number figure.SymbolMacroticks 10
    ∷ cluster.Number figure.IdleMacroticks 10
    ∷ cluster.Number figure.MacroticksPerCycle 100
    ∷ cluster.Number figure.PayloadWords 1
    ∷ cluster.Number figure.Cycles 64
    ∷ []

-- a variant, a node of `s1`, a grant to it, a frame, its placement in the first cycle, and the schedule
pub the_first_script :
    answers (
    with_a_grant
    ++ s1 (AddFrame (codes "v1") (codes "f1") (codes "n1"))
    ∷ s1 (Place (codes "v1") (codes "f1") 1 (codes "A") 0 64)
    ∷ s1 (Query (OfVariant (codes "v1") Schedule))
    ∷ integrator (Query (OfVariant (codes "v1") Schedule))
    ∷ s2 (Query (OfVariant (codes "v1") Schedule))
    ∷ [])
    ≡ Done ∷ Done ∷ Done ∷ Done ∷ Done
    ∷ Sent false (record { cycle = 0; slot = 1; channel = ch.A; frame = codes "f1"; node = codes "n1"; supplier = codes "s1" } ∷ [])
    ∷ Sent true (record { cycle = 0; slot = 1; channel = ch.A; frame = codes "f1"; node = codes "n1"; supplier = codes "s1" } ∷ [])
    ∷ Sent false []
    ∷ []
unfolding a_small_register
the_first_script = refl

-- what the register then holds: of the suppliers each is told itself alone, and the integrator all; and so of nodes
pub what_is_held :
    answers (
    integrator (OpenVariant (codes "v1") Empty)
    ∷ integrator (Release (codes "v1"))
    ∷ integrator (OpenVariant (codes "v2") (From (codes "v1")))
    ∷ integrator (AddNode (codes "s2") (codes "m1"))
    ∷ integrator (AddNode (codes "s1") (codes "n2"))
    ∷ integrator (AddNode (codes "s1") (codes "n1"))
    ∷ integrator (Query (OfRegister listed.Nodes))
    ∷ s1 (Query (OfRegister listed.Nodes))
    ∷ s2 (Query (OfRegister listed.Nodes))
    ∷ s1 (Query (OfRegister listed.Variants))
    ∷ integrator (Query (OfRegister listed.Cluster))
    ∷ s2 (Query (OfRegister listed.Cluster))
    ∷ [])
    ≡ Done ∷ Done ∷ Done ∷ Done ∷ Done ∷ Done
    ∷ Told true (rows.Nodes (
    record { node = codes "n1"; supplier = codes "s1" }
    ∷ record { node = codes "n2"; supplier = codes "s1" }
    ∷ record { node = codes "m1"; supplier = codes "s2" }
    ∷ []))
    ∷ Told false (rows.Nodes (record { node = codes "n1"; supplier = codes "s1" } ∷ record { node = codes "n2"; supplier = codes "s1" } ∷ []))
    ∷ Told false (rows.Nodes (record { node = codes "m1"; supplier = codes "s2" } ∷ []))
    ∷ Told false (rows.Variants (
    record { variant = codes "v1"; parent = None; depth = 1; released = true }
    ∷ record { variant = codes "v2"; parent = Some (codes "v1"); depth = 2; released = false }
    ∷ []))
    ∷ Told true (rows.Cluster (the_figures ++ cluster.Supplier (codes "s1") ∷ cluster.Supplier (codes "s2") ∷ []))
    ∷ Told false (rows.Cluster (the_figures ++ cluster.Supplier (codes "s2") ∷ []))
    ∷ []
unfolding a_small_register
what_is_held = refl

-- the cell of least cycle is named, A before B
pub cells_taken :
    answers (
    with_a_grant
    ++ integrator (Grant (codes "v1") 1 (codes "B") (codes "s1") (codes "n1"))
    ∷ s1 (AddFrame (codes "v1") (codes "e") (codes "n1"))
    ∷ s1 (AddFrame (codes "v1") (codes "f") (codes "n1"))
    ∷ s1 (AddFrame (codes "v1") (codes "g") (codes "n1"))
    ∷ s1 (AddFrame (codes "v1") (codes "h") (codes "n1"))
    ∷ s1 (Place (codes "v1") (codes "f") 1 (codes "AB") 0 2)
    ∷ s1 (Place (codes "v1") (codes "g") 1 (codes "B") 2 4)
    ∷ s1 (Place (codes "v1") (codes "g") 1 (codes "AB") 2 4)
    ∷ s1 (Place (codes "v1") (codes "g") 1 (codes "B") 1 2)
    ∷ s1 (Place (codes "v1") (codes "e") 1 (codes "A") 3 4)
    ∷ s1 (Place (codes "v1") (codes "h") 1 (codes "A") 0 1)
    ∷ [])
    ≡ Done ∷ Done ∷ Done ∷ Done ∷ Done ∷ Done ∷ Done ∷ Done ∷ Done
    ∷ Refused (CellTaken 2 ch.B (codes "f"))
    ∷ Refused (CellTaken 2 ch.A (codes "f"))
    ∷ Done
    ∷ Done
    ∷ Refused (CellTaken 0 ch.A (codes "f"))
    ∷ []
unfolding a_small_register
cells_taken = refl

-- one holder for a slot and channel
pub two_suppliers_one_slot :
    answers (
    with_a_grant
    ++ integrator (AddNode (codes "s2") (codes "n2"))
    ∷ integrator (AddNode (codes "s1") (codes "n3"))
    ∷ integrator (Grant (codes "v1") 1 (codes "A") (codes "s2") (codes "n2"))
    ∷ integrator (Grant (codes "v1") 1 (codes "A") (codes "s1") (codes "n1"))
    ∷ integrator (Grant (codes "v1") 1 (codes "A") (codes "s1") (codes "n3"))
    ∷ integrator (Grant (codes "v1") 1 (codes "B") (codes "s2") (codes "n2"))
    ∷ [])
    ≡ Done ∷ Done ∷ Done ∷ Done ∷ Done ∷ Refused Taken ∷ Refused Exists ∷ Refused NodeDiffers ∷ Done ∷ []
unfolding a_small_register
two_suppliers_one_slot = refl

-- a frame lies in grants to its own node
pub two_nodes_of_one_supplier :
    answers (
    integrator (OpenVariant (codes "v1") Empty)
    ∷ integrator (AddNode (codes "s1") (codes "n1"))
    ∷ integrator (AddNode (codes "s1") (codes "n2"))
    ∷ integrator (Grant (codes "v1") 1 (codes "A") (codes "s1") (codes "n1"))
    ∷ integrator (Grant (codes "v1") 2 (codes "A") (codes "s1") (codes "n2"))
    ∷ s1 (AddFrame (codes "v1") (codes "f") (codes "n1"))
    ∷ s1 (Place (codes "v1") (codes "f") 1 (codes "AB") 0 1)
    ∷ s1 (Place (codes "v1") (codes "f") 2 (codes "A") 0 1)
    ∷ [])
    ≡ Done ∷ Done ∷ Done ∷ Done ∷ Done ∷ Done ∷ Refused NotGranted ∷ Refused NotGranted ∷ []
unfolding a_small_register
two_nodes_of_one_supplier = refl

-- refusals by the request alone, and of a variant that is not there
pub refused_lines :
    answers (
    integrator (OpenVariant (codes "v1") Empty)
    ∷ s1 (OpenVariant (codes "v2") Empty)
    ∷ integrator (AddFrame (codes "v1") (codes "f1") (codes "n1"))
    ∷ s1 (Place (codes "1v") (codes "f1") 1 (codes "A") 0 64)
    ∷ s1 (Place (codes "v1") (codes "f1") 0 (codes "A") 0 64)
    ∷ s1 (Place (codes "v1") (codes "f1") 5 (codes "A") 0 64)
    ∷ s1 (Place (codes "v1") (codes "f1") 1 (codes "AA") 0 64)
    ∷ s1 (Query (OfVariant (codes "v9") Schedule))
    ∷ [])
    ≡ Done ∷ Refused NotYours ∷ Refused NotYours ∷ Refused BadName ∷ Refused BadSlot ∷ Refused BadSlot ∷ Refused BadChannel ∷ Refused NoVariant ∷ []
unfolding a_small_register
refused_lines = refl

-- of several refusals the first by number
pub first_refusals :
    answers (
    with_a_grant
    ++ s1 (AddFrame (codes "v1") (codes "f") (codes "n1"))
    ∷ s1 (Place (codes "1v") (codes "f") 0 (codes "C") 5 3)
    ∷ s1 (Place (codes "v9") (codes "f") 0 (codes "C") 5 3)
    ∷ s1 (Place (codes "v9") (codes "f") 5 (codes "C") 0 1)
    ∷ s1 (Place (codes "v9") (codes "f") 4 (codes "C") 0 1)
    ∷ s1 (Place (codes "v9") (codes "g") 4 (codes "AB") 0 1)
    ∷ s1 (Place (codes "v1") (codes "g") 4 (codes "AB") 0 1)
    ∷ s1 (Place (codes "v1") (codes "f") 1 (codes "A") 0 8)
    ∷ s1 (Place (codes "v1") (codes "f") 1 (codes "A") 1 8)
    ∷ s1 (Place (codes "v1") (codes "f") 1 (codes "A") 2 8)
    ∷ s1 (Place (codes "v1") (codes "f") 1 (codes "A") 3 8)
    ∷ s1 (Place (codes "v1") (codes "f") 1 (codes "A") 4 8)
    ∷ s1 (Place (codes "v1") (codes "f") 1 (codes "A") 5 8)
    ∷ s1 (Place (codes "v1") (codes "f") 1 (codes "A") 6 8)
    ∷ s1 (Place (codes "v1") (codes "f") 1 (codes "A") 7 8)
    ∷ s1 (Place (codes "v1") (codes "f") 3 (codes "A") 7 8)
    ∷ s1 (Place (codes "v1") (codes "f") 1 (codes "A") 7 8)
    ∷ s1 (AddFrame (codes "v1") (codes "f") (codes "n9"))
    ∷ s1 (AddFrame (codes "v1") (codes "f") (codes "n1"))
    ∷ integrator (Grant (codes "v9") 1 (codes "A") (codes "s9") (codes "n9"))
    ∷ integrator (Grant (codes "v1") 1 (codes "A") (codes "s9") (codes "n9"))
    ∷ integrator (Grant (codes "v1") 1 (codes "A") (codes "s2") (codes "n1"))
    ∷ integrator (AddNode (codes "s9") (codes "n1"))
    ∷ integrator (AddNode (codes "s1") (codes "n1"))
    ∷ integrator (OpenVariant (codes "v1") Empty)
    ∷ record { actor = Supplier (codes "s3"); request = OpenVariant (codes "1v") Empty }
    ∷ [])
    ≡ Done ∷ Done ∷ Done ∷ Done
    ∷ Refused BadName ∷ Refused BadCycles ∷ Refused BadSlot ∷ Refused BadChannel ∷ Refused NoVariant ∷ Refused NoFrame
    ∷ Done ∷ Done ∷ Done ∷ Done ∷ Done ∷ Done ∷ Done ∷ Done
    ∷ Refused NotGranted ∷ Refused Limit
    ∷ Refused NoNode ∷ Refused Exists
    ∷ Refused NoVariant ∷ Refused NoSupplier ∷ Refused NoNode
    ∷ Refused NoSupplier ∷ Refused Exists ∷ Refused Exists
    ∷ Refused UnknownKey ∷ []
unfolding a_small_register
first_refusals = refl

-- slot 1 in cycles 0, 4, .. and slot 3 in cycles 2, 6, ..: moments 0, 220, 400, 620, ..
pub gap_of_two_slots :
    answers (
    with_a_grant
    ++ integrator (Grant (codes "v1") 3 (codes "A") (codes "s1") (codes "n1"))
    ∷ s1 (AddFrame (codes "v1") (codes "f") (codes "n1"))
    ∷ s1 (Place (codes "v1") (codes "f") 1 (codes "A") 0 4)
    ∷ s1 (Place (codes "v1") (codes "f") 3 (codes "A") 2 4)
    ∷ s1 (Query (OfVariant (codes "v1") Gaps))
    ∷ [])
    ≡ Done
    ∷ Done
    ∷ Done
    ∷ Done
    ∷ Done
    ∷ Done
    ∷ Done
    ∷ Longest false (record { frame = codes "f"; supplier = codes "s1"; gap = Some 220 } ∷ [])
    ∷ []
unfolding a_small_register
gap_of_two_slots = refl

-- the same cluster with so many cycles
unfoldable pub counting : ℕ → ClusterFile
unfolding file
counting n = record file { cluster = record file.cluster { params = record file.cluster.params { cycles = n } } }

-- the answers of a new register with so many cycles
unfoldable pub counted_answers : ℕ → List Ask → List Answer
counted_answers n asks = answers_to (counting n).cluster (opening (counting n)) asks

-- twelve cycles: two sets of repetitions 4 and 6 meet in cycle 8
pub twelve_cycles :
    counted_answers 12 (
    with_a_grant
    ++ s1 (AddFrame (codes "v1") (codes "f") (codes "n1"))
    ∷ s1 (AddFrame (codes "v1") (codes "g") (codes "n1"))
    ∷ s1 (Place (codes "v1") (codes "f") 1 (codes "A") 0 4)
    ∷ s1 (Place (codes "v1") (codes "g") 1 (codes "A") 2 6)
    ∷ [])
    ≡ Done ∷ Done ∷ Done ∷ Done ∷ Done ∷ Done
    ∷ Refused (CellTaken 8 ch.A (codes "f"))
    ∷ []
unfolding a_small_register counting counted_answers
twelve_cycles = refl

-- ten cycles: a ring of 1000 macroticks, no cycle from the tenth on, and no repetition that does not divide 10
pub ten_cycles :
    counted_answers 10 (
    with_a_grant
    ++ s1 (AddFrame (codes "v1") (codes "f") (codes "n1"))
    ∷ s1 (Place (codes "v1") (codes "f") 1 (codes "A") 1 5)
    ∷ s1 (Place (codes "v1") (codes "f") 1 (codes "A") 0 4)
    ∷ s1 (Place (codes "v1") (codes "f") 1 (codes "A") 0 64)
    ∷ s1 (Query (OfVariant (codes "v1") Gaps))
    ∷ s1 (Query (OfVariant (codes "v1") Schedule))
    ∷ [])
    ≡ Done ∷ Done ∷ Done ∷ Done ∷ Done
    ∷ Refused BadCycles
    ∷ Refused BadCycles
    ∷ Longest false (record { frame = codes "f"; supplier = codes "s1"; gap = Some 500 } ∷ [])
    ∷ Sent false (
    record { cycle = 1; slot = 1; channel = ch.A; frame = codes "f"; node = codes "n1"; supplier = codes "s1" }
    ∷ record { cycle = 6; slot = 1; channel = ch.A; frame = codes "f"; node = codes "n1"; supplier = codes "s1" }
    ∷ [])
    ∷ []
unfolding a_small_register counting counted_answers
ten_cycles = refl

-- a lone moment, two slots, and none
pub gaps_alone_mixed_never :
    answers (
    with_a_grant
    ++ integrator (Grant (codes "v1") 2 (codes "A") (codes "s1") (codes "n1"))
    ∷ integrator (Grant (codes "v1") 4 (codes "A") (codes "s1") (codes "n1"))
    ∷ s1 (AddFrame (codes "v1") (codes "f") (codes "n1"))
    ∷ s1 (AddFrame (codes "v1") (codes "g") (codes "n1"))
    ∷ s1 (AddFrame (codes "v1") (codes "h") (codes "n1"))
    ∷ s1 (Place (codes "v1") (codes "f") 1 (codes "A") 1 64)
    ∷ s1 (Place (codes "v1") (codes "g") 2 (codes "A") 0 2)
    ∷ s1 (Place (codes "v1") (codes "g") 4 (codes "A") 1 64)
    ∷ s1 (Query (OfVariant (codes "v1") Gaps))
    ∷ [])
    ≡ Done
    ∷ Done
    ∷ Done
    ∷ Done
    ∷ Done
    ∷ Done
    ∷ Done
    ∷ Done
    ∷ Done
    ∷ Done
    ∷ Done
    ∷ Longest false (record { frame = codes "f"; supplier = codes "s1"; gap = Some 6400 } ∷ record { frame = codes "g"; supplier = codes "s1"; gap = Some 200 } ∷ record { frame = codes "h"; supplier = codes "s1"; gap = None } ∷ [])
    ∷ []
unfolding a_small_register
gaps_alone_mixed_never = refl

-- a grant under a placement stays; after the placement is gone, the grant goes once
pub a_grant_revoked :
    answers (
    integrator (OpenVariant (codes "v1") Empty)
    ∷ integrator (AddNode (codes "s1") (codes "n1"))
    ∷ integrator (AddNode (codes "s2") (codes "n2"))
    ∷ integrator (Grant (codes "v1") 1 (codes "A") (codes "s1") (codes "n1"))
    ∷ integrator (Grant (codes "v1") 2 (codes "A") (codes "s2") (codes "n2"))
    ∷ s1 (AddFrame (codes "v1") (codes "f1") (codes "n1"))
    ∷ s1 (Place (codes "v1") (codes "f1") 1 (codes "A") 0 64)
    ∷ integrator (Revoke (codes "v1") 1 (codes "A") (codes "s1"))
    ∷ s1 (Unplace (codes "v1") (codes "f1") 1 (codes "A") 0 64)
    ∷ integrator (Revoke (codes "v1") 1 (codes "A") (codes "s1"))
    ∷ integrator (Revoke (codes "v1") 1 (codes "A") (codes "s1"))
    ∷ integrator (Revoke (codes "v1") 2 (codes "A") (codes "s1"))
    ∷ integrator (Revoke (codes "v1") 2 (codes "B") (codes "s1"))
    ∷ integrator (Revoke (codes "v1") 5 (codes "A") (codes "s9"))
    ∷ integrator (Revoke (codes "v1") 2 (codes "A") (codes "s9"))
    ∷ integrator (Query (OfVariant (codes "v1") Grants))
    ∷ [])
    ≡ Done
    ∷ Done
    ∷ Done
    ∷ Done
    ∷ Done
    ∷ Done
    ∷ Done
    ∷ Refused InUse
    ∷ Done
    ∷ Done
    ∷ Refused NotGranted
    ∷ Refused NotGranted
    ∷ Refused NotGranted
    ∷ Refused BadSlot
    ∷ Refused NoSupplier
    ∷ Holds true (record { slot = 2; channel = ch.A; node = codes "n2"; supplier = codes "s2" } ∷ [])
    ∷ []
unfolding a_small_register
a_grant_revoked = refl

-- a dropped frame is not sent; a placement is that of its four fields
pub a_frame_dropped :
    answers (
    with_a_grant
    ++ s1 (AddFrame (codes "v1") (codes "f1") (codes "n1"))
    ∷ s1 (Place (codes "v1") (codes "f1") 1 (codes "A") 0 64)
    ∷ s1 (Query (OfVariant (codes "v1") Frames))
    ∷ s1 (Unplace (codes "v1") (codes "f1") 1 (codes "A") 0 32)
    ∷ s1 (DropFrame (codes "v1") (codes "f1"))
    ∷ s1 (Query (OfVariant (codes "v1") Schedule))
    ∷ s1 (DropFrame (codes "v1") (codes "f1"))
    ∷ s1 (Unplace (codes "v1") (codes "f1") 1 (codes "A") 0 64)
    ∷ [])
    ≡ Done
    ∷ Done
    ∷ Done
    ∷ Done
    ∷ Done
    ∷ Framed false (record { frame = codes "f1"; node = codes "n1"; supplier = codes "s1"; placements = record { slot = 1; channels = chs.A; cycles = cycle_set 0 64 } ∷ [] } ∷ [])
    ∷ Refused NoPlacement
    ∷ Done
    ∷ Sent false []
    ∷ Refused NoFrame
    ∷ Refused NoFrame
    ∷ []
unfolding a_small_register
a_frame_dropped = refl

-- a released variant stays; one that was opened from it goes on by itself
pub a_variant_released :
    answers (
    with_a_grant
    ++ s1 (AddFrame (codes "v1") (codes "f1") (codes "n1"))
    ∷ s1 (Place (codes "v1") (codes "f1") 1 (codes "A") 0 64)
    ∷ integrator (Release (codes "v1"))
    ∷ s1 (Place (codes "v1") (codes "f1") 1 (codes "A") 1 64)
    ∷ integrator (Revoke (codes "v1") 1 (codes "A") (codes "s1"))
    ∷ integrator (Release (codes "v1"))
    ∷ integrator (OpenVariant (codes "v2") (From (codes "v1")))
    ∷ s1 (DropFrame (codes "v2") (codes "f1"))
    ∷ s1 (Query (OfVariant (codes "v1") Schedule))
    ∷ s1 (Query (OfVariant (codes "v2") Schedule))
    ∷ integrator (OpenVariant (codes "v3") (From (codes "v2")))
    ∷ integrator (OpenVariant (codes "v3") (From (codes "v9")))
    ∷ integrator (OpenVariant (codes "v2") (From (codes "v1")))
    ∷ s1 (AddFrame (codes "v2") (codes "f2") (codes "n1"))
    ∷ s1 (Place (codes "v2") (codes "f2") 1 (codes "A") 0 64)
    ∷ s1 (Query (OfVariant (codes "v2") Schedule))
    ∷ [])
    ≡ Done
    ∷ Done
    ∷ Done
    ∷ Done
    ∷ Done
    ∷ Done
    ∷ Refused Released
    ∷ Refused Released
    ∷ Refused Released
    ∷ Done
    ∷ Done
    ∷ Sent false (record { cycle = 0; slot = 1; channel = ch.A; frame = codes "f1"; node = codes "n1"; supplier = codes "s1" } ∷ [])
    ∷ Sent false []
    ∷ Refused NotReleased
    ∷ Refused NoVariant
    ∷ Refused Exists
    ∷ Done
    ∷ Done
    ∷ Sent false (record { cycle = 0; slot = 1; channel = ch.A; frame = codes "f2"; node = codes "n1"; supplier = codes "s1" } ∷ [])
    ∷ []
unfolding a_small_register
a_variant_released = refl

-- a variant that is opened flat has all rows of a released one, and no parent; an open variant and one that is not there refuse
pub a_variant_opened_flat :
    answers (
    with_a_grant
    ++ s1 (AddFrame (codes "v1") (codes "f1") (codes "n1"))
    ∷ s1 (Place (codes "v1") (codes "f1") 1 (codes "A") 0 64)
    ∷ integrator (OpenVariant (codes "w") (Flat (codes "v1")))
    ∷ integrator (OpenVariant (codes "w") (Flat (codes "v9")))
    ∷ integrator (Release (codes "v1"))
    ∷ s1 (OpenVariant (codes "w") (Flat (codes "v1")))
    ∷ integrator (OpenVariant (codes "w") (Flat (codes "1v")))
    ∷ integrator (OpenVariant (codes "w") (Flat (codes "v1")))
    ∷ integrator (OpenVariant (codes "w") (Flat (codes "v1")))
    ∷ integrator (Query (OfRegister listed.Variants))
    ∷ s1 (Query (OfVariant (codes "w") Schedule))
    ∷ [])
    ≡ Done
    ∷ Done
    ∷ Done
    ∷ Done
    ∷ Done
    ∷ Refused NotReleased
    ∷ Refused NoVariant
    ∷ Done
    ∷ Refused NotYours
    ∷ Refused BadName
    ∷ Done
    ∷ Refused Exists
    ∷ Told true (rows.Variants (
    record { variant = codes "v1"; parent = None; depth = 1; released = true }
    ∷ record { variant = codes "w"; parent = None; depth = 1; released = false }
    ∷ []))
    ∷ Sent false (record { cycle = 0; slot = 1; channel = ch.A; frame = codes "f1"; node = codes "n1"; supplier = codes "s1" } ∷ [])
    ∷ []
unfolding a_small_register
a_variant_opened_flat = refl

-- sixteen variants, each opened from the one before; then a variant is opened flat from the last, and another one from that
pub depth_of_sixteen :
    answers (
    integrator (OpenVariant (codes "v1") Empty)
    ∷ integrator (Release (codes "v1"))
    ∷ integrator (OpenVariant (codes "v2") (From (codes "v1")))
    ∷ integrator (Release (codes "v2"))
    ∷ integrator (OpenVariant (codes "v3") (From (codes "v2")))
    ∷ integrator (Release (codes "v3"))
    ∷ integrator (OpenVariant (codes "v4") (From (codes "v3")))
    ∷ integrator (Release (codes "v4"))
    ∷ integrator (OpenVariant (codes "v5") (From (codes "v4")))
    ∷ integrator (Release (codes "v5"))
    ∷ integrator (OpenVariant (codes "v6") (From (codes "v5")))
    ∷ integrator (Release (codes "v6"))
    ∷ integrator (OpenVariant (codes "v7") (From (codes "v6")))
    ∷ integrator (Release (codes "v7"))
    ∷ integrator (OpenVariant (codes "v8") (From (codes "v7")))
    ∷ integrator (Release (codes "v8"))
    ∷ integrator (OpenVariant (codes "v9") (From (codes "v8")))
    ∷ integrator (Release (codes "v9"))
    ∷ integrator (OpenVariant (codes "v10") (From (codes "v9")))
    ∷ integrator (Release (codes "v10"))
    ∷ integrator (OpenVariant (codes "v11") (From (codes "v10")))
    ∷ integrator (Release (codes "v11"))
    ∷ integrator (OpenVariant (codes "v12") (From (codes "v11")))
    ∷ integrator (Release (codes "v12"))
    ∷ integrator (OpenVariant (codes "v13") (From (codes "v12")))
    ∷ integrator (Release (codes "v13"))
    ∷ integrator (OpenVariant (codes "v14") (From (codes "v13")))
    ∷ integrator (Release (codes "v14"))
    ∷ integrator (OpenVariant (codes "v15") (From (codes "v14")))
    ∷ integrator (Release (codes "v15"))
    ∷ integrator (OpenVariant (codes "v16") (From (codes "v15")))
    ∷ integrator (Release (codes "v16"))
    ∷ integrator (OpenVariant (codes "v17") (From (codes "v16")))
    ∷ integrator (OpenVariant (codes "v17") Empty)
    ∷ integrator (OpenVariant (codes "w") (Flat (codes "v16")))
    ∷ integrator (Release (codes "w"))
    ∷ integrator (OpenVariant (codes "v18") (From (codes "w")))
    ∷ [])
    ≡ Done
    ∷ Done
    ∷ Done
    ∷ Done
    ∷ Done
    ∷ Done
    ∷ Done
    ∷ Done
    ∷ Done
    ∷ Done
    ∷ Done
    ∷ Done
    ∷ Done
    ∷ Done
    ∷ Done
    ∷ Done
    ∷ Done
    ∷ Done
    ∷ Done
    ∷ Done
    ∷ Done
    ∷ Done
    ∷ Done
    ∷ Done
    ∷ Done
    ∷ Done
    ∷ Done
    ∷ Done
    ∷ Done
    ∷ Done
    ∷ Done
    ∷ Done
    ∷ Refused TooDeep
    ∷ Done
    ∷ Done
    ∷ Done
    ∷ Done
    ∷ []
unfolding a_small_register
depth_of_sixteen = refl

-- signals of a payload of one word
pub signals_refused :
    answers (
    integrator (OpenVariant (codes "v1") Empty)
    ∷ integrator (AddNode (codes "s1") (codes "n1"))
    ∷ s1 (AddFrame (codes "v1") (codes "f") (codes "n1"))
    ∷ s1 (AddSignal (codes "v1") (codes "f") (codes "y") 3 8 (codes "big"))
    ∷ s1 (AddSignal (codes "v1") (codes "f") (codes "x") 4 8 (codes "little"))
    ∷ s1 (Query (OfVariant (codes "v1") (Layout (codes "f"))))
    ∷ s1 (AddSignal (codes "v1") (codes "f") (codes "z") 11 1 (codes "little"))
    ∷ s1 (AddSignal (codes "v1") (codes "f") (codes "z") 0 16 (codes "little"))
    ∷ s1 (AddSignal (codes "v1") (codes "f") (codes "x") 0 1 (codes "little"))
    ∷ s1 (DropSignal (codes "v1") (codes "f") (codes "w"))
    ∷ s1 (AddSignal (codes "v1") (codes "f") (codes "z") 15 2 (codes "little"))
    ∷ s1 (AddSignal (codes "v1") (codes "f") (codes "z") 8 2 (codes "big"))
    ∷ s1 (AddSignal (codes "v1") (codes "f") (codes "z") 0 0 (codes "little"))
    ∷ s1 (AddSignal (codes "v1") (codes "f") (codes "z") 0 65 (codes "little"))
    ∷ s1 (AddSignal (codes "v1") (codes "f") (codes "z") 0 1 (codes "middle"))
    ∷ s1 (AddSignal (codes "v1") (codes "g") (codes "z") 0 1 (codes "little"))
    ∷ s1 (DropSignal (codes "v1") (codes "f") (codes "y"))
    ∷ s1 (Query (OfVariant (codes "v1") (Layout (codes "f"))))
    ∷ s1 (AddSignal (codes "v1") (codes "f") (codes "z") 15 1 (codes "little"))
    ∷ s1 (Query (OfVariant (codes "v1") (Layout (codes "g"))))
    ∷ [])
    ≡ Done
    ∷ Done
    ∷ Done
    ∷ Done
    ∷ Done
    ∷ Laid false (record { supplier = codes "s1"; signal = record { name = codes "y"; start = 3; length = 8; order = order.Big } } ∷ record { supplier = codes "s1"; signal = record { name = codes "x"; start = 4; length = 8; order = order.Little } } ∷ [])
    ∷ Refused (BitTaken 11 (codes "x"))
    ∷ Refused (BitTaken 0 (codes "y"))
    ∷ Refused Exists
    ∷ Refused NoSignal
    ∷ Refused OutOfPayload
    ∷ Refused OutOfPayload
    ∷ Refused BadSignal
    ∷ Refused BadSignal
    ∷ Refused BadSignal
    ∷ Refused NoFrame
    ∷ Done
    ∷ Laid false (record { supplier = codes "s1"; signal = record { name = codes "x"; start = 4; length = 8; order = order.Little } } ∷ [])
    ∷ Done
    ∷ Refused NoFrame
    ∷ []
unfolding a_small_register
signals_refused = refl

-- ---- suppliers that join

abbrev pub s3 : Request → Ask
s3 r = record { actor = Supplier (codes "s3"); request = r }

-- Who asks before it joined is not known. Then it is, and sees nothing of what others have. Its key and its name cannot be used
-- again. Nodes and grants are as any supplier's.
unfoldable pub joining : List Ask
joining =
    with_a_grant
    ++ s1 (AddFrame (codes "v1") (codes "f1") (codes "n1"))
    ∷ s1 (Place (codes "v1") (codes "f1") 1 (codes "A") 0 64)
    ∷ s3 (Query (OfVariant (codes "v1") Schedule))
    ∷ integrator (AddSupplier (codes "s3") (codes "supplier03"))
    ∷ s3 (Query (OfVariant (codes "v1") Schedule))
    ∷ integrator (AddSupplier (codes "s3") (codes "supplier01"))
    ∷ integrator (AddSupplier (codes "s4") (codes "supplier03"))
    ∷ integrator (AddSupplier (codes "s4") (codes "integrator1"))
    ∷ integrator (AddSupplier (codes "s4") (codes "short"))
    ∷ integrator (AddSupplier (codes "4s") (codes "short"))
    ∷ s1 (AddSupplier (codes "4s") (codes "short"))
    ∷ s3 (AddFrame (codes "v1") (codes "f1") (codes "m1"))
    ∷ integrator (AddNode (codes "s3") (codes "m1"))
    ∷ integrator (Grant (codes "v1") 2 (codes "A") (codes "s3") (codes "m1"))
    ∷ integrator (Grant (codes "v1") 1 (codes "A") (codes "s3") (codes "m1"))
    ∷ []

pub a_supplier_joins :
    answers joining
    ≡ Done ∷ Done ∷ Done ∷ Done ∷ Done
    ∷ Refused UnknownKey ∷ Done ∷ Sent false []
    ∷ Refused Exists ∷ Refused KeyTaken ∷ Refused KeyTaken ∷ Refused BadKey ∷ Refused BadName ∷ Refused NotYours
    ∷ Refused NoNode ∷ Done ∷ Done ∷ Refused Taken ∷ []
unfolding a_small_register joining
a_supplier_joins = refl

-- Nobody has the key before; then it is the supplier's.
pub a_key_before_and_after :
    (actor_of file.cluster (opening file) (codes "supplier03") ≡ None)
    × (actor_of file.cluster (book_after file.cluster (opening file) joining) (codes "supplier03") ≡ Some (Supplier (codes "s3")))
    × (actor_of file.cluster (book_after file.cluster (opening file) joining) (codes "integrator1") ≡ Some Integrator)
unfolding a_small_register joining actor_of
a_key_before_and_after = (refl, refl, refl)

-- ---- keys that change

-- The supplier's plan, and then another key for it. A key that is somebody's is taken, the supplier's own too.
unfoldable pub keying : List Ask
keying =
    with_a_grant
    ++ s1 (AddFrame (codes "v1") (codes "f1") (codes "n1"))
    ∷ s1 (Place (codes "v1") (codes "f1") 1 (codes "A") 0 64)
    ∷ integrator (SetKey (codes "s1") (codes "supplier09"))
    ∷ s1 (Query (OfVariant (codes "v1") Schedule))
    ∷ integrator (SetKey (codes "s1") (codes "supplier09"))
    ∷ integrator (SetKey (codes "s1") (codes "supplier02"))
    ∷ integrator (SetKey (codes "s1") (codes "integrator1"))
    ∷ integrator (SetKey (codes "s1") (codes "short"))
    ∷ integrator (SetKey (codes "s3") (codes "short"))
    ∷ integrator (SetKey (codes "3s") (codes "short"))
    ∷ integrator (SetKey (codes "s3") (codes "supplier03"))
    ∷ integrator (SetKey (codes "s3") (codes "supplier02"))
    ∷ s1 (SetKey (codes "s1") (codes "supplier03"))
    ∷ []

pub a_key_changes :
    answers keying
    ≡ Done ∷ Done ∷ Done ∷ Done ∷ Done ∷ Done
    ∷ Sent false (record { cycle = 0; slot = 1; channel = ch.A; frame = codes "f1"; node = codes "n1"; supplier = codes "s1" } ∷ [])
    ∷ Refused KeyTaken ∷ Refused KeyTaken ∷ Refused KeyTaken
    ∷ Refused BadKey ∷ Refused BadKey ∷ Refused BadName ∷ Refused NoSupplier ∷ Refused NoSupplier ∷ Refused NotYours ∷ []
unfolding a_small_register keying
a_key_changes = refl

-- whose a key is before these and after them
abbrev whose : List ℕ → Option Actor × Option Actor
whose key = (actor_of file.cluster (opening file) key, actor_of file.cluster (book_after file.cluster (opening file) keying) key)

-- The old key is nobody's, the new one the supplier's, and the others are whose they were.
pub whose_the_keys_are :
    map whose (codes "supplier01" ∷ codes "supplier09" ∷ codes "supplier02" ∷ codes "integrator1" ∷ [])
    ≡ (Some (Supplier (codes "s1")), None)
    ∷ (None, Some (Supplier (codes "s1")))
    ∷ (Some (Supplier (codes "s2")), Some (Supplier (codes "s2")))
    ∷ (Some Integrator, Some Integrator)
    ∷ []
unfolding a_small_register keying actor_of
whose_the_keys_are = refl

-- `s10`, `s11`, .., whose keys are `supplier10`, `supplier11`, ..
abbrev pub two_digits : ℕ → List ℕ
two_digits n = (48 + (n / 10)) ∷ (48 + (n % 10)) ∷ []

-- a file of 64 suppliers
unfoldable pub full_file : ClusterFile
full_file = record file { suppliers = map (λ n. record { name = codes "s" ++ two_digits n; key = codes "supplier" ++ two_digits n }) (range_with_len 10 64) }

-- One supplier more meets the limit, but a key in use first.
pub one_more_than_64 :
    answers_to file.cluster (opening full_file) (
    integrator (AddSupplier (codes "s99") (codes "supplier99"))
    ∷ integrator (AddSupplier (codes "s99") (codes "supplier10"))
    ∷ integrator (AddSupplier (codes "s10") (codes "supplier10"))
    ∷ [])
    ≡ Refused Limit ∷ Refused KeyTaken ∷ Refused Exists ∷ []
unfolding a_small_register full_file
one_more_than_64 = refl
