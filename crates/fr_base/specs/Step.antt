-- Step: what each request does. First come its refusals by the book in order, one a line, and then the book after it
-- and the answer. What refuses a change of a supplier's rows sees those rows alone, and of all rows only which slots
-- and channels are held and who sends in which cell. What the change makes of grants and frames is said once, for all
-- rows and for the supplier's own. An import's rows are such changes in turn: a row of frames adds the frame; a row of
-- placements is its frame, added where it is not there, and then its placement; a row of signals adds the signal. All are carried out and the import
-- is kept, or the first refused row is told and nothing is changed. An import whose label is kept has its answer again,
-- or is `LabelUsed`. A replacement's rows act so where the frames that they name have lost what the file brings anew; where
-- it is whole, all the supplier's frames have. A refusal leaves the book as it was. A trial tells what would become of each
-- row of a file, and changes nothing. A proposal tells a placement for each wish of a file, and changes nothing.
use Rattle.std.specs.Prelude.{ℕ, suc, ◌==◌, Bool, true, false, not, ◌&&◌, if◌then◌else◌, List, [], ◌∷◌, length, map, nat_le, nat_lt, Option, Some, None, is_some, Result, Ok, Err, ⊤}
use Rattle.std.specs.List.{list_any}
use Rattle.std.specs.Option.{option_and_then}
use Rattle.fr_base.specs.Refusing.{◌>>=◌, ◌>>◌, ◌or◌, refuse◌when◌}
use Rattle.fr_base.specs.Tables.{Table, Fate, Becomes, Gone, empty, get, contains, len, insert, remove, settle}
use Rattle.fr_base.specs.Keys.{owned, channel_slots}
use Rattle.fr_base.specs.Cells.{Cell, cells_of}
use Rattle.fr_base.specs.Schedule.{first_taken}
use Rattle.fr_base.specs.Checks.{check}
use Rattle.fr_base.specs.Channels.{has_channel}
use Rattle.fr_base.specs.Cluster.{Cluster, keys_of}
use Rattle.fr_base.specs.Layouts.{LayoutData, has_signal, with_signal, without_signal, admits_signal}
use Rattle.fr_base.specs.ImportRows.{header_of_body, rows_of_body, all_rows_of_body}
use Rattle.fr_base.specs.Queries.{reply}
pub use Rattle.fr_base.specs.OwnRows.{OwnRows}
unfoldable pub use Rattle.fr_base.specs.OwnRows.{own_rows}
use Rattle.fr_base.specs.Wishes.{wishes_of_body}
use Rattle.fr_base.specs.Proposals.{proposal}
use Rattle.fr_base.specs.Names.{same_text}
use Rattle.fr_base.specs.Book.{Holder, Frame, Variant, Kept, Book, Sender, file_of, empty_variant, held_by_node, own, own_grants, granted, placements_of, schedule_of}
use Rattle.fr_base.specs.declared.limits.TheConstants.{MAX_SUPPLIERS, MAX_NODES, MAX_VARIANTS, MAX_DEPTH, MAX_FRAMES, MAX_PLACEMENTS, MAX_IMPORTS, MAX_IMPORT_BYTES}
use Rattle.fr_base.specs.declared.channel.Channel.{Channel}
use Rattle.fr_base.specs.declared.key.Key.{Key}
use Rattle.fr_base.specs.declared.name.Name.{Name}
use Rattle.fr_base.specs.declared.params.Params.{Params}
use Rattle.fr_base.specs.declared.placement.Placement.{Placement}
use Rattle.fr_base.specs.declared.answer.Answer.{Answer}
use Rattle.fr_base.specs.declared.answer.Answer.TheVariants as answer
use Rattle.fr_base.specs.declared.refusal.Refusal.{Refusal}
use Rattle.fr_base.specs.declared.refusal.Refusal.TheVariants.{UnknownKey, LabelUsed, NoVariant, Released, NotReleased, TooDeep, NoSupplier, NoNode, NoFrame, NoSignal, NoPlacement, Exists, NodeDiffers, NotGranted, InUse, Limit, Taken, CellTaken, KeyTaken}
use Rattle.fr_base.specs.declared.import.Header.{Header}
use Rattle.fr_base.specs.declared.import.Header.TheVariants.{Frames, Placements, Signals}
use Rattle.fr_base.specs.declared.import.Row.{Row}
use Rattle.fr_base.specs.declared.import.Row.TheVariants as row
use Rattle.fr_base.specs.declared.import.RowRead.{RowRead}
use Rattle.fr_base.specs.declared.actor.Actor.{Actor}
use Rattle.fr_base.specs.declared.actor.Actor.TheVariants.{Integrator, Supplier}
use Rattle.fr_base.specs.declared.request.Request.{Request}
use Rattle.fr_base.specs.declared.request.Command.{Command}
use Rattle.fr_base.specs.declared.request.Command.TheVariants.{Common, AddSupplier, SetKey, AddNode, Rows}
use Rattle.fr_base.specs.declared.beginning.Beginning.{Beginning}
use Rattle.fr_base.specs.declared.beginning.Beginning.TheVariants.{Empty, From, Flat}
use Rattle.fr_base.specs.declared.request.CommonCommand.{CommonCommand}
use Rattle.fr_base.specs.declared.request.CommonCommand.TheVariants.{OpenVariant, Release}
use Rattle.fr_base.specs.declared.request.Change.{Change}
use Rattle.fr_base.specs.declared.request.Change.TheVariants.{Grant, Revoke, Frame as OfFrame}
use Rattle.fr_base.specs.declared.request.FrameChange.{FrameChange}
use Rattle.fr_base.specs.declared.request.FrameChange.TheVariants.{Add, Drop, Place, Unplace, AddSignal, DropSignal}
use Rattle.fr_base.specs.declared.delivery.Delivery.{Delivery}
use Rattle.fr_base.specs.declared.delivery.Purpose.{Purpose}
use Rattle.fr_base.specs.declared.delivery.Purpose.TheVariants as purpose
use Rattle.fr_base.specs.declared.delivery.Manner.{Manner}
use Rattle.fr_base.specs.declared.delivery.Manner.TheVariants as manner
use Rattle.fr_base.specs.declared.answer.FateRow.{FateRow}
use Rattle.fr_base.specs.declared.answer.ReportRows.TheVariants as shows
use Rattle.fr_base.specs.declared.request.Checked.{Checked}
use Rattle.fr_base.specs.declared.request.Checked.TheVariants as checked

-- the book with this variant
abbrev pub with_variant : Book → Name → Variant → Book
with_variant b v variant = record b { variants = insert b.variants v variant }

-- ---- the integrator's commands, common to all suppliers

-- the variant that a new one begins as: an empty one; one with all rows of a released parent, and one deeper; or, opened flat, one with
-- all rows of a released variant, and without a parent
unfoldable pub begun : Book → Beginning Name → Result Variant Refusal
begun b Empty = Ok empty_variant
begun b (Flat from) = do
  variant ← get b.variants from or NoVariant
  refuse NotReleased when not variant.released
  Ok (record variant { parent = None; depth = 1; released = false })
begun b (From parent) = do
  variant ← get b.variants parent or NoVariant
  refuse NotReleased when not variant.released
  refuse TooDeep when nat_le MAX_DEPTH variant.depth
  Ok (record variant { parent = Some parent; depth = suc variant.depth; released = false })

-- OpenVariant: an open variant. Release: the variant is frozen.
unfoldable pub common : Book → CommonCommand → Result Book Refusal
common b (OpenVariant v beginning) = do
  variant ← begun b beginning
  refuse Exists when contains b.variants v
  refuse Limit when nat_le MAX_VARIANTS (len b.variants)
  Ok (with_variant b v variant)
common b (Release v) = do
  variant ← get b.variants v or NoVariant
  refuse Released when variant.released
  Ok (with_variant b v (record variant { released = true }))

-- ---- the integrator's commands to one supplier

-- whether the integrator or a supplier has the key
unfoldable pub has_key : Cluster → Book → Key → Bool
has_key c b key = list_any (same_text key) (keys_of c.integrator (file_of c b).suppliers)

-- AddSupplier: the supplier is there, without nodes
unfoldable pub add_supplier : Cluster → Book → Name → Key → Result Book Refusal
add_supplier c b s key = do
  refuse Exists when contains b.suppliers s
  refuse KeyTaken when has_key c b key
  refuse Limit when nat_le MAX_SUPPLIERS (len b.suppliers)
  Ok (record b { suppliers = insert b.suppliers s key })

-- SetKey: the supplier has this key, and its old one is nobody's
unfoldable pub set_key : Cluster → Book → Name → Key → Result Book Refusal
set_key c b s key = do
  refuse NoSupplier when not (contains b.suppliers s)
  refuse KeyTaken when has_key c b key
  Ok (record b { suppliers = insert b.suppliers s key })

-- AddNode: the supplier has the node, in all variants
unfoldable pub add_node : Book → Name → Name → Result Book Refusal
add_node b s n = do
  refuse NoSupplier when not (contains b.suppliers s)
  refuse Exists when contains b.nodes (s, n)
  refuse Limit when nat_le MAX_NODES (len (own s b.nodes))
  Ok (record b { nodes = insert b.nodes (s, n) tt })

-- ---- changes of one supplier's rows in a variant: what refuses them

-- what the suppliers share in a variant: which slots and channels are held, and who sends in which cell
pub record Shared : Type 0 where
  pub held : ℕ × Channel → Bool
  pub filled : Cell → Option Sender

-- what is shared where these are all grants and all frames
unfoldable pub shared_by : Table channel_slots Holder → Table owned Frame → Shared
shared_by grants frames = record { held = contains grants; filled = schedule_of frames }

-- whether the placement fills the slot on the channel, in some cycle
abbrev pub fills : ℕ × Channel → Placement → Bool
fills at q = (q.slot == at.0) && has_channel q.channels at.1

-- whether a placement of the frames fills the slot on the channel
unfoldable pub in_use : ℕ × Channel → Table owned Frame → Bool
in_use at frames = list_any (λ placed. fills at placed.1) (placements_of frames)

-- a cell that is filled refuses a placement
unfoldable pub cell_taken : Option (Cell × Sender) → Result ⊤ Refusal
cell_taken None = Ok tt
cell_taken (Some taken) = Err (CellTaken taken.0.cycle taken.0.channel taken.1.frame)

-- the layout of a frame's payload
abbrev pub layout_of : Params → Frame → LayoutData
layout_of p frame = record { words = p.payload_words; signals = frame.signals }

-- the first refusal that a change of a frame meets, or none; `there` is what stands at the frame's name
unfoldable pub admits_frame : OwnRows → Shared → Option Frame → FrameChange → Result ⊤ Refusal
admits_frame rows shared there (Add node) = do
  refuse NoNode when not (contains rows.nodes (rows.supplier, node))
  refuse Exists when is_some there
  refuse Limit when nat_le MAX_FRAMES (len rows.frames)
admits_frame rows shared there Drop = do
  refuse NoFrame when not (is_some there)
admits_frame rows shared there (Place q) = do
  frame ← there or NoFrame
  refuse NotGranted when not (granted rows.grants rows.supplier frame.node q)
  refuse Limit when nat_le MAX_PLACEMENTS (len frame.placements)
  cell_taken (first_taken shared.filled (cells_of q))
admits_frame rows shared there (Unplace q) = do
  frame ← there or NoFrame
  refuse NoPlacement when not (contains frame.placements q)
admits_frame rows shared there (AddSignal signal) = do
  frame ← there or NoFrame
  admits_signal (layout_of rows.params frame) signal
admits_frame rows shared there (DropSignal name) = do
  frame ← there or NoFrame
  refuse NoSignal when not (has_signal frame.signals name)

-- the first refusal that a change of the supplier's rows meets, or none
unfoldable pub admits : OwnRows → Shared → Change → Result ⊤ Refusal
admits rows shared (Grant slot channel node) = do
  refuse NoNode when not (contains rows.nodes (rows.supplier, node))
  refuse Exists when held_by_node rows.supplier node (get rows.grants (slot, channel))
  refuse NodeDiffers when contains rows.grants (slot, channel)
  refuse Taken when shared.held (slot, channel)
admits rows shared (Revoke slot channel) = do
  refuse NotGranted when not (contains rows.grants (slot, channel))
  refuse InUse when in_use (slot, channel) rows.frames
admits rows shared (OfFrame f change) = admits_frame rows shared (get rows.frames (rows.supplier, f)) change

-- ---- what such a change makes of the rows: said once, for all suppliers' rows of the variant and for the supplier's own

-- the grants after a change of the supplier's rows
unfoldable pub grants_after : Name → Change → Table channel_slots Holder → Table channel_slots Holder
grants_after s (Grant slot channel node) grants = insert grants (slot, channel) (record { supplier = s; node = node })
grants_after s (Revoke slot channel) grants = remove grants (slot, channel)
grants_after s (OfFrame f change) grants = grants

-- what becomes of the frame; where there is none, only Add makes one
unfoldable pub frame_after : FrameChange → Option Frame → Fate Frame
frame_after (Add node) there = Becomes (record { node = node; placements = empty; signals = [] })
frame_after Drop there = Gone
frame_after (Place q) (Some frame) = Becomes (record frame { placements = insert frame.placements q tt })
frame_after (Unplace q) (Some frame) = Becomes (record frame { placements = remove frame.placements q })
frame_after (AddSignal signal) (Some frame) = Becomes (record frame { signals = with_signal signal frame.signals })
frame_after (DropSignal name) (Some frame) = Becomes (record frame { signals = without_signal name frame.signals })
frame_after _ None = Gone

-- the frames after a change of the supplier's rows
unfoldable pub frames_after : Name → Change → Table owned Frame → Table owned Frame
frames_after s (OfFrame f change) frames = settle frames (s, f) (frame_after change (get frames (s, f)))
frames_after s (Grant slot channel node) frames = frames
frames_after s (Revoke slot channel) frames = frames

-- the variant after such a change
unfoldable pub changed : Name → Change → Variant → Variant
changed s change variant = record variant { grants = grants_after s change variant.grants; frames = frames_after s change variant.frames }

-- A change of one supplier's rows in a variant. A supplier that asks is known, so only Grant and Revoke meet NoSupplier.
unfoldable pub change_rows : Params → Book → Name → Name → Change → Result Book Refusal
change_rows p b s v change = do
  variant ← get b.variants v or NoVariant
  refuse Released when variant.released
  refuse NoSupplier when not (contains b.suppliers s)
  admits (own_rows p b s variant) (shared_by variant.grants variant.frames) change
  Ok (with_variant b v (changed s change variant))

-- ---- what comes of a request

-- the book after a request, and its answer
pub record Outcome : Type 0 where
  pub book : Book
  pub answer : Answer

-- ---- an import

-- the frame of the supplier in the variant
abbrev pub frame_at : Book → Name → Name → Name → Option Frame
frame_at b s v f = option_and_then (λ variant. get variant.frames (s, f)) (get b.variants v)

-- the book with a row's frame: it is there, with the row's node, or else it is added
unfoldable pub with_frame : Params → Book → Name → Name → Name → Name → Option Frame → Result Book Refusal
with_frame p b s v f n None = change_rows p b s v (OfFrame f (Add n))
with_frame p b s v f n (Some frame) = do
  refuse NodeDiffers when not (same_text frame.node n)
  Ok b

-- What a row does, in an open variant that is there: a row of frames adds the frame; a row of placements is its frame, of a node that the
-- supplier has, and then its placement; a row of signals adds the signal.
unfoldable pub act_row : Params → Book → Name → Name → Row → Result Book Refusal
act_row p b s v (row.AddFrame f n) = change_rows p b s v (OfFrame f (Add n))
act_row p b s v (row.Place f n q) = do
  refuse NoNode when not (contains b.nodes (s, n))
  framed ← with_frame p b s v f n (frame_at b s v f)
  change_rows p framed s v (OfFrame f (Place q))
act_row p b s v (row.AddSignal f signal) = change_rows p b s v (OfFrame f (AddSignal signal))

-- a file's refused row: its line, and what refuses it
pub record RefusedAt : Type 0 where
  pub line : ℕ
  pub refusal : Refusal

-- a refusal at a line
unfoldable pub at_line : {A : Type 0} → ℕ → Result A Refusal → Result A RefusedAt
at_line line (Ok x) = Ok x
at_line line (Err refusal) = Err (record { line = line; refusal = refusal })

-- the rows in turn, each on the rows that those before it left, up to the first that is refused by its own text or as it acts
unfoldable pub act_rows : Params → Book → Name → Name → List RowRead → Result Book RefusedAt
act_rows p b s v [] = Ok b
act_rows p b s v (read ∷ rest) = do
  after ← at_line read.line (read.row >>= act_row p b s v)
  act_rows p after s v rest

-- the book with the import kept
abbrev pub with_import : Book → Delivery → Name → ℕ → Book
with_import b d label count =
    record b { imports = insert b.imports (d.supplier, label) (record { variant = d.variant; body = d.body; rows = count }) }

-- all rows were carried out, so many, and the import is kept; or one was refused, and the book is the old one
unfoldable pub imported : Book → Delivery → Name → ℕ → Result Book RefusedAt → Outcome
imported b d label count (Ok after) = record { book = with_import after d label count; answer = answer.Imported count }
imported b d label count (Err fault) = record { book = b; answer = answer.RefusedRow fault.line fault.refusal }

-- the import of these rows
abbrev pub import_rows : Params → Book → Delivery → Name → List RowRead → Outcome
import_rows p b d label rows = imported b d label (length rows) (act_rows p b d.supplier d.variant rows)

-- An import under a label that is not kept: its variant is there and open, its bytes and the supplier's imports are within the limits,
-- and then its rows. Under one that is kept, the same variant and file have the same answer again, after a release too, and nothing
-- is changed.
unfoldable pub import : Params → Book → Delivery → Name → Option Kept → Result Outcome Refusal
import p b d label None = do
  variant ← get b.variants d.variant or NoVariant
  refuse Released when variant.released
  refuse Limit when nat_lt MAX_IMPORT_BYTES (length d.body)
  refuse Limit when nat_le MAX_IMPORTS (len (own d.supplier b.imports))
  Ok (import_rows p b d label (rows_of_body p d.body))
import p b d label (Some kept) = do
  refuse LabelUsed when not (same_text kept.variant d.variant && same_text kept.body d.body)
  Ok (record { book = b; answer = answer.Imported kept.rows })

-- ---- a replacement

-- the kind of a row, as a file's header tells it
abbrev pub kind_of_row : Row → Header
kind_of_row (row.AddFrame f n) = Frames
kind_of_row (row.Place f n q) = Placements
kind_of_row (row.AddSignal f signal) = Signals

-- What becomes of what stands at a frame that rows of this kind name, before the rows act: a frame that is there loses its placements
-- where they are placements, and its signals where they are signals.
unfoldable pub freed : Header → Option Frame → Fate Frame
freed Frames (Some frame) = Becomes frame
freed Placements (Some frame) = Becomes (record frame { placements = empty })
freed Signals (Some frame) = Becomes (record frame { signals = [] })
freed kind None = Gone

-- the frame that a row names
abbrev pub frame_of_row : Row → Name
frame_of_row (row.AddFrame f n) = f
frame_of_row (row.Place f n q) = f
frame_of_row (row.AddSignal f signal) = f

-- the frames after the frame of a row was freed; a refused row names none
unfoldable pub free_row : Name → Result Row Refusal → Table owned Frame → Table owned Frame
free_row s (Ok row) frames = settle frames (s, frame_of_row row) (freed (kind_of_row row) (get frames (s, frame_of_row row)))
free_row s (Err refusal) frames = frames

-- and after those of all rows were
unfoldable pub free_rows : Name → List RowRead → Table owned Frame → Table owned Frame
free_rows s [] frames = frames
free_rows s (read ∷ rest) frames = free_rows s rest (free_row s read.row frames)

-- whether a row names the frame together with the node
abbrev pub names_with : Name → Name → Result Row Refusal → Bool
names_with f n (Ok (row.AddFrame g m)) = same_text g f && same_text m n
names_with f n (Ok (row.Place g m q)) = same_text g f && same_text m n
names_with f n (Ok (row.AddSignal g signal)) = false
names_with f n (Err refusal) = false

-- What becomes of what stands at a frame where the file is the whole of its kind: each frame counts as one that the rows name. And below
-- the header of frames a frame is dropped, unless a row names it together with the node that it has.
unfoldable pub cleared : Header → List RowRead → Name → Option Frame → Fate Frame
cleared Frames reads f (Some frame) = if list_any (λ read. names_with f frame.node read.row) reads then Becomes frame else Gone
cleared Frames reads f None = Gone
cleared Placements reads f there = freed Placements there
cleared Signals reads f there = freed Signals there

-- the frames after those of these names were cleared
unfoldable pub clear_frames : Name → Header → List RowRead → List Name → Table owned Frame → Table owned Frame
clear_frames s kind reads [] frames = frames
clear_frames s kind reads (f ∷ rest) frames = clear_frames s kind reads rest (settle frames (s, f) (cleared kind reads f (get frames (s, f))))

-- the names of the supplier's frames
abbrev pub frame_names : Name → Table owned Frame → List Name
frame_names s frames = map (λ row. row.0.1) (own s frames).rows

-- the frames after all the supplier's were cleared; where no kind is given, none was
unfoldable pub clear_all : Name → Option Header → List RowRead → Table owned Frame → Table owned Frame
clear_all s None reads frames = frames
clear_all s (Some kind) reads frames = clear_frames s kind reads (frame_names s frames) frames

-- the kind of which a file is the whole, if it is one
abbrev pub whole_of : Bool → Option Header → Option Header
whole_of true header = header
whole_of false header = None

-- the book where first all frames of the variant were cleared, if the file is the whole of a kind, and then each that a row names was freed
abbrev pub with_freed : Book → Name → Name → Variant → Option Header → List RowRead → Book
with_freed b s v variant whole reads = with_variant b v (record variant { frames = free_rows s reads (clear_all s whole reads variant.frames) })

-- What a row of a replacement does: a row of frames leaves a frame that is there with this node, and else adds it; the others do what
-- those of an import do.
unfoldable pub replace_row : Params → Book → Name → Name → Row → Result Book Refusal
replace_row p b s v (row.AddFrame f n) = do
  refuse NoNode when not (contains b.nodes (s, n))
  with_frame p b s v f n (frame_at b s v f)
replace_row p b s v (row.Place f n q) = act_row p b s v (row.Place f n q)
replace_row p b s v (row.AddSignal f signal) = act_row p b s v (row.AddSignal f signal)

-- the rows in turn, each on the rows that those before it left, up to the first that is refused by its own text or as it acts
unfoldable pub replace_rows : Params → Book → Name → Name → List RowRead → Result Book RefusedAt
replace_rows p b s v [] = Ok b
replace_rows p b s v (read ∷ rest) = do
  after ← at_line read.line (read.row >>= replace_row p b s v)
  replace_rows p after s v rest

-- all rows were carried out, so many; or one was refused, and the book is the old one
unfoldable pub replaced : Book → ℕ → Result Book RefusedAt → Outcome
replaced b count (Ok after) = record { book = after; answer = answer.Replaced count }
replaced b count (Err fault) = record { book = b; answer = answer.RefusedRow fault.line fault.refusal }

-- A replacement: its variant is there and open, and its bytes are within the limit. First each frame that a row names is freed, or each
-- of the supplier's where the file is whole, and then the rows act.
unfoldable pub replace : Params → Book → Delivery → Bool → Result Outcome Refusal
replace p b d whole = do
  variant ← get b.variants d.variant or NoVariant
  refuse Released when variant.released
  refuse Limit when nat_lt MAX_IMPORT_BYTES (length d.body)
  Ok (replaced b (length (rows_of_body p d.body))
      (replace_rows p (with_freed b d.supplier d.variant variant (whole_of whole (header_of_body d.body)) (rows_of_body p d.body)) d.supplier d.variant (rows_of_body p d.body)))

-- ---- a trial

-- what a row of a file does, as an import or as a replacement
abbrev pub try_row : Params → Manner → Book → Name → Name → Row → Result Book Refusal
try_row p (manner.Replace whole) b s v row = replace_row p b s v row
try_row p manner.Import b s v row = act_row p b s v row

-- what becomes of a row, and the rows after it; a refused row changes nothing
unfoldable pub fate_of : {B : Type 0} → B → ℕ → Result B Refusal → B × FateRow
fate_of before line (Ok after) = (after, record { line = line; refusal = None })
fate_of before line (Err refusal) = (before, record { line = line; refusal = Some refusal })

-- what becomes of the rows in turn, each on the rows that those before it left
unfoldable pub fates_of : Params → Manner → Book → Name → Name → List RowRead → List FateRow
fates_of p how b s v [] = []
fates_of p how b s v (read ∷ rest) =
    (fate_of b read.line (read.row >>= try_row p how b s v)).1
    ∷ fates_of p how (fate_of b read.line (read.row >>= try_row p how b s v)).0 s v rest

-- the book on which the first row acts: in that of a replacement the frames that its rows name are freed, or all where it is whole
abbrev pub tried : Manner → Book → Name → Name → Variant → Option Header → List RowRead → Book
tried (manner.Replace whole) b s v variant header reads = with_freed b s v variant (whole_of whole header) reads
tried manner.Import b s v variant header reads = b

-- A trial: its variant is there and open, and its bytes are within the limit. What becomes of each row is told, and the book stays.
unfoldable pub try : Params → Book → Delivery → Manner → Result Outcome Refusal
try p b d how = do
  variant ← get b.variants d.variant or NoVariant
  refuse Released when variant.released
  refuse Limit when nat_lt MAX_IMPORT_BYTES (length d.body)
  Ok (record {
    book = b;
    answer = answer.Report false (shows.Fates
        (fates_of p how (tried how b d.supplier d.variant variant (header_of_body d.body) (rows_of_body p d.body)) d.supplier d.variant (all_rows_of_body p d.body)));
  })

-- ---- a proposal

-- A proposal: its variant is there and open, and its bytes are within the limit. What is proposed is told, and the book stays.
unfoldable pub propose : Params → Book → Delivery → Bool → Result Outcome Refusal
propose p b d replace = do
  variant ← get b.variants d.variant or NoVariant
  refuse Released when variant.released
  refuse Limit when nat_lt MAX_IMPORT_BYTES (length d.body)
  Ok (record {
    book = b;
    answer = answer.Report false (shows.Proposal replace (proposal (own_rows p b d.supplier variant) replace (wishes_of_body p d.body)));
  })

-- ---- the step

-- what was done, unless it was refused
unfoldable pub done : Result Book Refusal → Result Outcome Refusal
done result = do
  after ← result
  Ok (record { book = after; answer = answer.Done })

-- what a command does
unfoldable pub perform : Cluster → Book → Command → Result Outcome Refusal
perform c b (Common command) = done (common b command)
perform c b (AddSupplier s key) = done (add_supplier c b s key)
perform c b (SetKey s key) = done (set_key c b s key)
perform c b (AddNode s n) = done (add_node b s n)
perform c b (Rows rows) = done (change_rows c.params b rows.supplier rows.variant rows.change)

-- what a file does, by what it is delivered for
unfoldable pub deliver : Params → Book → Delivery → Purpose Name → Result Outcome Refusal
deliver p b d (purpose.Import label) = import p b d label (get b.imports (d.supplier, label))
deliver p b d (purpose.Replacement whole) = replace p b d whole
deliver p b d (purpose.Trial how) = try p b d how
deliver p b d (purpose.Proposal replace) = propose p b d replace

-- what a request with checked values does
unfoldable pub act : Cluster → Book → Actor → Checked → Result Outcome Refusal
act c b actor (checked.Command command) = perform c b command
act c b actor (checked.Deliver d) = deliver c.params b d d.how
act c b actor (checked.Query query) = do
  shown ← reply c.params b actor query
  Ok (record { book = b; answer = shown })

-- a refusal leaves the book as it was
unfoldable pub outcome : Book → Result Outcome Refusal → Outcome
outcome b (Ok o) = o
outcome b (Err refusal) = record { book = b; answer = answer.Refused refusal }

-- whether the register knows the actor
abbrev pub knows : Book → Actor → Bool
knows b Integrator = true
knows b (Supplier s) = contains b.suppliers s

-- one request, under a cluster
unfoldable pub step : Cluster → Book → Actor → Request → Outcome
step c b actor request = outcome b (do
  refuse UnknownKey when not (knows b actor)
  valid ← check c.params actor request
  act c b actor valid)
