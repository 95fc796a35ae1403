-- Report: the lines of each report. A gap stands at the right of seven places. Each line ends with
-- the supplier's name, for the integrator alone; but the `AT` lines of frames and the lines of the
-- cluster, of variants, of a room, of fates and of a proposal have none.
use Rattle.std.specs.Prelude.{ℕ, Bool, List, [], ◌∷◌, ◌++◌, map, codes, decimal, Option, Some, None, Result, Ok, Err, if◌then◌else◌}
use Rattle.std.specs.List.{flat_map}
use Rattle.fr_base.specs.Channels.{text_of_channel, text_of_channels}
use Rattle.fr_base.specs.ImportRows.{spelled}
use Rattle.fr_base.specs.Queries.{key_of_figure}
use Rattle.fr_base.specs.Signals.{SignalData, text_of_order}
use Rattle.fr_base.specs.declared.answer.Answer.{Answer}
use Rattle.fr_base.specs.declared.answer.Answer.TheVariants.{Report}
use Rattle.fr_base.specs.declared.answer.ReportRows.{ReportRows}
use Rattle.fr_base.specs.declared.answer.ReportRows.TheVariants as rows
use Rattle.fr_base.specs.declared.answer.ClusterRow.{ClusterRow}
use Rattle.fr_base.specs.declared.answer.ClusterRow.TheVariants.{Channels, Number, Supplier}
use Rattle.fr_base.specs.declared.answer.VariantRow.{VariantRow}
use Rattle.fr_base.specs.declared.answer.NodeRow.{NodeRow}
use Rattle.fr_base.specs.declared.answer.GrantRow.{GrantRow}
use Rattle.fr_base.specs.declared.answer.FrameRow.{FrameRow}
use Rattle.fr_base.specs.declared.answer.Sending.{Sending}
use Rattle.fr_base.specs.declared.answer.GapRow.{GapRow}
use Rattle.fr_base.specs.declared.answer.SignalRow.{SignalRow}
use Rattle.fr_base.specs.declared.answer.LoadRow.{LoadRow}
use Rattle.fr_base.specs.declared.answer.LaneHolder.{LaneHolder}
use Rattle.fr_base.specs.declared.answer.FrameRecord.{FrameRecord}
use Rattle.fr_base.specs.declared.answer.PlacementRecord.{PlacementRecord}
use Rattle.fr_base.specs.declared.answer.SignalRecord.{SignalRecord}
use Rattle.fr_base.specs.declared.answer.DifferenceRow.{DifferenceRow}
use Rattle.fr_base.specs.declared.answer.SeenRow.{SeenRow}
use Rattle.fr_base.specs.declared.answer.SeenRow.TheVariants as seen
use Rattle.fr_base.specs.declared.import.Header.{Header}
use Rattle.fr_base.specs.declared.import.Header.TheVariants as header
use Rattle.fr_base.specs.declared.name.Name.{Name}
use Rattle.fr_base.specs.declared.placement.Placement.{Placement}
use Rattle.fr_base.specs.declared.proposal.LackRow.{LackRow}
use Rattle.fr_base.specs.declared.proposal.Proposal.{Proposal}
use Rattle.fr_base.specs.declared.proposal.ProposalRow.{ProposalRow}
use Rattle.fr_base.specs.declared.proposal.ProposedPlacement.{ProposedPlacement}
use Rattle.fr_base.specs.declared.refusal.Refusal.{Refusal}
use Rattle.fr_text.specs.RoomLines.{room_lines}
use Rattle.fr_text.specs.FateLines.{fate_line, refusal_words}
use Rattle.fr_text.specs.Words.{two_digits, four_digits, right_in, gap_word, line, comma_line, shown_to}

-- slot, channel and node
unfoldable pub grant_line : Bool → GrantRow → List ℕ
grant_line all g = line (four_digits g.slot ∷ text_of_channel g.channel ∷ g.node ∷ shown_to all g.supplier)

-- a frame and its node
unfoldable pub frame_line : Bool → FrameRow → List ℕ
frame_line all f = line (codes "FRAME" ∷ f.frame ∷ f.node ∷ shown_to all f.supplier)

-- slot, channels, base and repetition of a frame's placement; no supplier, whoever asks
unfoldable pub placement_line : Placement → List ℕ
placement_line q = line (codes "AT" ∷ four_digits q.slot ∷ text_of_channels q.channels ∷ two_digits q.cycles.base ∷ two_digits q.cycles.repetition ∷ [])

-- cycle, slot, channel, frame and node
unfoldable pub schedule_line : Bool → Sending → List ℕ
schedule_line all s = line (two_digits s.cycle ∷ four_digits s.slot ∷ text_of_channel s.channel ∷ s.frame ∷ s.node ∷ shown_to all s.supplier)

-- a frame's greatest gap, at the right of seven places
unfoldable pub gap_line : Bool → GapRow → List ℕ
gap_line all g = line (codes "GAP" ∷ right_in 7 (gap_word g.gap) ∷ g.frame ∷ shown_to all g.supplier)

-- start, length, order and name of a signal
unfoldable pub signal_line : Bool → SignalRow → List ℕ
signal_line all s = line (four_digits s.signal.start ∷ two_digits s.signal.length ∷ text_of_order s.signal.order ∷ s.signal.name ∷ shown_to all s.supplier)

-- a frame's line, and a line for each of its placements
abbrev pub frame_lines : Bool → FrameRow → List (List ℕ)
frame_lines all f = frame_line all f ∷ map placement_line f.placements

-- a figure's key and its value, or a supplier
unfoldable pub cluster_line : ClusterRow → List ℕ
cluster_line (Channels cs) = line (codes "channels" ∷ text_of_channels cs ∷ [])
cluster_line (Number figure n) = line (key_of_figure figure ∷ decimal n ∷ [])
cluster_line (Supplier s) = line (codes "supplier" ∷ s ∷ [])

-- the parent of a variant, or a hyphen where it has none
abbrev pub parent_word : Option Name → List ℕ
parent_word None = codes "-"
parent_word (Some parent) = parent

-- whether a variant may still change
abbrev pub state_word : Bool → List ℕ
state_word released = if released then codes "released" else codes "open"

-- name, parent, depth and state of a variant
unfoldable pub variant_line : VariantRow → List ℕ
variant_line v = line (v.variant ∷ parent_word v.parent ∷ decimal v.depth ∷ state_word v.released ∷ [])

-- a node
unfoldable pub node_line : Bool → NodeRow → List ℕ
node_line all n = line (n.node ∷ shown_to all n.supplier)

-- the node that holds a lane, or a hyphen; for the integrator also the supplier, or a hyphen
abbrev pub holder_words : Bool → Option LaneHolder → List (List ℕ)
holder_words all None = codes "-" ∷ shown_to all (codes "-")
holder_words all (Some h) = h.node ∷ shown_to all h.supplier

-- slot, channel, used cycles, count of cycles, and who holds the lane
unfoldable pub load_line : Bool → LoadRow → List ℕ
load_line all r = line (four_digits r.slot ∷ text_of_channel r.channel ∷ two_digits r.used ∷ two_digits r.cycles ∷ holder_words all r.holder)

-- the names of a file's fields
unfoldable pub header_line : Bool → Header → List ℕ
header_line all header = comma_line (spelled header ++ shown_to all (codes "supplier"))

-- slot, channels, base and repetition
abbrev pub placement_fields : Placement → List (List ℕ)
placement_fields q = decimal q.slot ∷ text_of_channels q.channels ∷ decimal q.cycles.base ∷ decimal q.cycles.repetition ∷ []

-- name, start, length and order
abbrev pub signal_fields : SignalData → List (List ℕ)
signal_fields s = s.name ∷ decimal s.start ∷ decimal s.length ∷ text_of_order s.order ∷ []

-- a frame as a record of a file, and so each of its placements, and of its signals
unfoldable pub frame_record : Bool → FrameRecord → List ℕ
frame_record all r = comma_line (r.frame ∷ r.node ∷ shown_to all r.supplier)

unfoldable pub placement_record : Bool → PlacementRecord → List ℕ
placement_record all r = comma_line (r.frame ∷ r.node ∷ placement_fields r.placement ++ shown_to all r.supplier)

unfoldable pub signal_record : Bool → SignalRecord → List ℕ
signal_record all r = comma_line (r.frame ∷ signal_fields r.signal ++ shown_to all r.supplier)

-- a placement that is proposed, as a record of a file
unfoldable pub proposed_record : ProposedPlacement → List ℕ
proposed_record r = comma_line (r.frame ∷ r.node ∷ placement_fields r.placement)

-- the record of the placement that is proposed for a wish, or what refuses the wish
abbrev pub proposed_words : Result ProposedPlacement Refusal → List (List ℕ)
proposed_words (Ok placed) = codes "00" ∷ proposed_record placed ∷ []
proposed_words (Err refusal) = refusal_words refusal

-- the line of a wish, by which it stands in its file, and what is proposed for it
unfoldable pub proposal_line : ProposalRow → List ℕ
proposal_line row = line (four_digits row.line ∷ proposed_words row.proposed)

-- node, channels, and how many slots are lacking
unfoldable pub lack_line : LackRow → List ℕ
lack_line lack = line (codes "LACK" ∷ lack.node ∷ text_of_channels lack.channels ∷ four_digits lack.slots ∷ [])

-- a line for each wish, then one for each lack
abbrev pub proposal_lines : Proposal → List (List ℕ)
proposal_lines proposal = map proposal_line proposal.rows ++ map lack_line proposal.lacks

-- a row of a variant, whose line can be read alone: a grant, a frame and its node, a placement of a frame, a signal of a frame, a
-- frame's greatest gap
unfoldable pub seen_line : Bool → SeenRow → List ℕ
seen_line all (seen.Grant g) = line (codes "GRANT" ∷ four_digits g.slot ∷ text_of_channel g.channel ∷ g.node ∷ shown_to all g.supplier)
seen_line all (seen.Frame f) = line (codes "FRAME" ∷ f.frame ∷ f.node ∷ shown_to all f.supplier)
seen_line all (seen.Placement f q s) =
    line (codes "AT" ∷ f ∷ four_digits q.slot ∷ text_of_channels q.channels ∷ two_digits q.cycles.base ∷ two_digits q.cycles.repetition ∷ shown_to all s)
seen_line all (seen.Signal r) =
    line (codes "SIGNAL" ∷ r.frame ∷ four_digits r.signal.start ∷ two_digits r.signal.length ∷ text_of_order r.signal.order ∷ r.signal.name ∷ shown_to all r.supplier)
seen_line all (seen.Gap g) = gap_line all g

-- the sign of a gone or a new row, and the row
unfoldable pub difference_line : Bool → DifferenceRow → List ℕ
difference_line all d = (if d.is_new then codes "+ " else codes "- ") ++ seen_line all d.row

-- the lines of a report's rows
unfoldable pub lines_of_rows : Bool → ReportRows → List (List ℕ)
lines_of_rows all (rows.Cluster cluster) = map cluster_line cluster
lines_of_rows all (rows.Variants variants) = map variant_line variants
lines_of_rows all (rows.Nodes nodes) = map (node_line all) nodes
lines_of_rows all (rows.Grants grants) = map (grant_line all) grants
lines_of_rows all (rows.Frames frames) = flat_map (frame_lines all) frames
lines_of_rows all (rows.Schedule sendings) = map (schedule_line all) sendings
lines_of_rows all (rows.Gaps gaps) = map (gap_line all) gaps
lines_of_rows all (rows.Layout signals) = map (signal_line all) signals
lines_of_rows all (rows.Load lanes) = map (load_line all) lanes
lines_of_rows all (rows.Seen seen) = map (seen_line all) seen
lines_of_rows all (rows.Room places) = room_lines places
lines_of_rows all (rows.FrameRecords records) = header_line all header.Frames ∷ map (frame_record all) records
lines_of_rows all (rows.PlacementRecords records) = header_line all header.Placements ∷ map (placement_record all) records
lines_of_rows all (rows.SignalRecords records) = header_line all header.Signals ∷ map (signal_record all) records
lines_of_rows all (rows.Difference differences) = map (difference_line all) differences
lines_of_rows all (rows.Fates fates) = map fate_line fates
lines_of_rows all (rows.Proposal replaces proposal) = proposal_lines proposal

-- the lines of an answer; an answer to no query has none
unfoldable pub lines_of : Answer → List (List ℕ)
lines_of (Report all rows) = lines_of_rows all rows
lines_of _ = []
