-- Paging: what a call reads of a supplier's rows in a variant: its nodes, its grants, the frames
-- that are the variant's own, the frames that the variant shows, and its page.
use Rattle.std.specs.Prelude.{◌≡◌, ℕ, pos, List, option_map, Option, Some, None, Result, MatchResult, IfErr, MatchOption, nat_abs, unwrap_or, if◌then◌else◌}
use Rattle.std.specs.Ordering.{int_eq}
use Rattle.sqlite.specs.Order.{Row, column}
use Rattle.sqlite.specs.Held.{Held, state}
use Rattle.sqlite.specs.State.{State, HasCleanDisk, IsUnchanged}
use Rattle.sqlite_trees.specs.declared.store.Store.{Ghosts}
use Rattle.fr_base.specs.Tables.{get}
use Rattle.fr_base.specs.Keys.{owned, channel_slots}
use Rattle.fr_base.specs.Channels.{channel_of_text, channels_of_text}
use Rattle.fr_base.specs.Book.{Book, Variant, Frame, own, own_grants}
use Rattle.fr_base.specs.declared.channel.Channel.TheVariants.{A}
use Rattle.fr_base.specs.declared.channel.Channels.TheVariants.{AB}
use Rattle.fr_base.specs.declared.name.Name.{Name}
use Rattle.fr_base.specs.declared.params.Params.{Params}
use Rattle.fr_base.specs.declared.signal.Order.TheVariants.{Little, Big}
use Rattle.fr_base.specs.Signals.{SignalData}
use Rattle.fr_base.specs.Step.{own_rows, layout_of}
use Rattle.fr_base.specs.declared.placement.Placement.{Placement}
use Rattle.fr_world.specs.Maps.{table_of, set_of}
use Rattle.fr_world.specs.Pages.{FrameData, PageData, frame_of, frames_data, holder_of, own_rows_of, page_in}
use Rattle.fr_world.specs.declared.page.ChannelSlot.{ChannelSlot}
use Rattle.fr_tables.specs.Rows.{words, maybe_words, number}
use Rattle.fr_tables.specs.Tables.{Tables, HasTables}
use Rattle.fr_tables.specs.Changes.{Stays, Spares, AreListed, tables_of}
use Rattle.fr_tables.specs.Statements.{is_frame_of, shows_frame, frames_cmp, is_placed_by, shows_placement, placements_cmp, is_signalled_by, shows_signal, signals_cmp}
use Rattle.fr_store.specs.StandsFor.{Stored, HoldsRows}
use Rattle.fr_store.specs.declared.fault.StoreFault.{StoreFault}
use Rattle.fr_store.specs.declared.fault.StoreFault.TheVariants.{Unavailable}
use Rattle.fr_store.specs.declared.page.frames.FrameRows.{FrameRows}
use Rattle.fr_store.specs.declared.page.view.Level.{Level}
use Rattle.fr_store.specs.declared.page.view.View.{View}

-- A call that reads says this of the tables and leaves them as they are, or it fails.
abbrev pub Reads : {X E : Type 0} → (Tables → X → Type 0) → State → State → Result X E → Type 0
Reads says old new r = HasCleanDisk new → HasTables old.now → MatchResult r (λ x. says (tables_of old) x × IsUnchanged old new) (λ _. Stays old new)

-- Such a call on a connection. The only refusal is `Unavailable`. A crash leaves nothing of the call,
-- and no fault is forgotten.
pub record OnlyReads {S X : Type 0} (g : Ghosts S) (says : Tables → X → Type 0) (old new : Held S) (r : Result X StoreFault) : Type 0 where
  pub told : Reads says (state g old) (state g new) r
  pub refused : IfErr r (λ fault. fault ≡ Unavailable)
  pub spares : Spares (state g old) (state g new)

-- ---- a variant's row

-- the parent over which the variant is laid, if it is laid over one; it shows that parent's frames
-- too
abbrev pub laid_over : Stored → Variant → Option Name
laid_over stored x = if stored.overlay then x.parent else None

abbrev pub level_shown : Row → Level
level_shown r = record { released = int_eq (number (column r 3)) (pos 1); parent = if int_eq (number (column r 4)) (pos 1) then maybe_words (column r 1) else None }

-- whether the variant is released, and over which parent it is laid, if the variant is there
abbrev pub TellsLevel : Name → Tables → Option Level → Type 0
TellsLevel v t found =
    (count : ℕ) (b : Book) (stands : HoldsRows t count b)
    → MatchOption found (get b.variants v ≡ None) (λ level. (x : Variant) × (get b.variants v ≡ Some x) × (level.released ≡ x.released) × (level.parent ≡ laid_over (stands.stored v) x))

-- ---- nodes and grants

-- these are the supplier's nodes
abbrev pub TellsNodes : Name → Tables → List Name → Type 0
TellsNodes s t nodes = (count : ℕ) (b : Book) → HoldsRows t count b → set_of owned (λ n. (s, n)) nodes ≡ own s b.nodes

abbrev pub grant_shown : Row → ChannelSlot × Name
grant_shown r = (record { slot = nat_abs (number (column r 0)); channel = unwrap_or (channel_of_text (words (column r 1))) A }, words (column r 2))

-- these are the supplier's grants in the variant
abbrev pub TellsGrants : Name → Name → Tables → List (ChannelSlot × Name) → Type 0
TellsGrants v s t grants =
    (count : ℕ) (b : Book) → HoldsRows t count b → (x : Variant) → get b.variants v ≡ Some x
    → table_of channel_slots (λ k. (k.slot, k.channel)) (holder_of s) grants ≡ own_grants s x.grants

-- ---- a frame's placements

-- the placement that a row says, with this count of cycles
abbrev pub placement_shown : ℕ → Row → Placement
placement_shown count r = record {
  slot = nat_abs (number (column r 1));
  channels = unwrap_or (channels_of_text (words (column r 2))) AB;
  cycles = record { count = count; base = nat_abs (number (column r 3)); repetition = nat_abs (number (column r 4)) };
}

-- ---- a frame's signals

abbrev pub signal_shown : Row → SignalData
signal_shown r = record {
  name = words (column r 1);
  start = nat_abs (number (column r 2));
  length = nat_abs (number (column r 3));
  order = if int_eq (number (column r 4)) (pos 1) then Big else Little;
}

-- this is the variant's own frame under the supplier and the name
abbrev pub TellsFrame : Params → Name → Name → Name → Name → Tables → FrameData → Type 0
TellsFrame p v s f n t rows =
    (b : Book) (stands : HoldsRows t p.cycles b) (x : Variant) (frame : Frame) → get b.variants v ≡ Some x → get (stands.stored v).own (s, f) ≡ Some frame → frame.node ≡ n
    → (frame_of rows ≡ frame) × (rows.layout ≡ layout_of p frame)

-- ---- the variant's own frames

-- the rows are those of the supplier's frames that are the variant's own, of their placements and
-- of their signals
pub record AreFrameRows (v s : Name) (t : Tables) (rows : FrameRows) : Type 0 where
  pub frames : AreListed shows_frame (is_frame_of v s) frames_cmp t.frames rows.frames.items
  pub placements : AreListed shows_placement (is_placed_by v s) placements_cmp t.placements rows.placements.items
  pub signals : AreListed shows_signal (is_signalled_by v s) signals_cmp t.signals rows.signals.items

abbrev pub node_shown : Row → Name
node_shown r = words (column r 1)

-- these are the supplier's frames that are the variant's own, with placements of this count of
-- cycles
abbrev pub TellsFrames : ℕ → Name → Name → Tables → List (Name × FrameData) → Type 0
TellsFrames count v s t frames =
    (b : Book) (stands : HoldsRows t count b) (x : Variant) → get b.variants v ≡ Some x → table_of owned (λ f. (s, f)) frame_of frames ≡ own s (stands.stored v).own

-- ---- the frames that a variant shows

-- these are the supplier's frames in the variant
abbrev pub AreFramesIn : Name → Variant → List (Name × FrameData) → Type 0
AreFramesIn s x frames = table_of owned (λ f. (s, f)) frame_of frames ≡ own s x.frames

-- If the first frames are the supplier's in the parent over which the variant is laid, the others
-- are the supplier's in the variant.
abbrev pub TellsOver : ℕ → Name → Name → Name → List (Name × FrameData) → Tables → List (Name × FrameData) → Type 0
TellsOver count v s parent inherited t frames =
    (b : Book) (stands : HoldsRows t count b) (x y : Variant) → get b.variants v ≡ Some x → laid_over (stands.stored v) x ≡ Some parent → get b.variants parent ≡ Some y
    → AreFramesIn s y inherited → AreFramesIn s x frames

-- whether the variant is released, and the supplier's frames in it, if the variant is there
abbrev pub TellsView : ℕ → Name → Name → Tables → Option View → Type 0
TellsView count v s t found =
    (b : Book) → HoldsRows t count b
    → MatchOption found (get b.variants v ≡ None) (λ view. (x : Variant) × (get b.variants v ≡ Some x) × (view.released ≡ x.released) × AreFramesIn s x (frames_data view.frames.entries))

-- ---- the page

-- the rows are the supplier's in the variant of this name
pub record AreRowsIn (p : Params) (b : Book) (s v : Name) (x : Variant) (rows : PageData) : Type 0 where
  pub params : rows.params ≡ p
  pub supplier : rows.supplier ≡ s
  pub variant : rows.variant ≡ v
  pub released : rows.released ≡ x.released
  pub stand_for : own_rows_of rows ≡ own_rows p b s x

-- these are the supplier's rows in the variant, if it is there
abbrev pub TellsRows : Params → Name → Name → Tables → Option PageData → Type 0
TellsRows p s v t found =
    (b : Book) → HoldsRows t p.cycles b → MatchOption found (get b.variants v ≡ None) (λ rows. (x : Variant) × (get b.variants v ≡ Some x) × AreRowsIn p b s v x rows)

-- the supplier's page of the variant, if the variant is there
abbrev pub page_of : Params → Book → Name → Name → Option PageData
page_of p b s v = option_map (page_in p b s v) (get b.variants v)
