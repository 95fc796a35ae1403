-- Lane, drawing: a lane has the grants and the rectangles of one slot and channel. A drawing's lanes have exactly the
-- grants and the cells of a schedule, each as often as it is there and in its place; each slot that is held or used or has
-- a change is shown, and the others as gaps; no two neighbours in a lane could be one.
use Rattle.std.specs.Prelude.{◌≡◌, ◌+◌, ◌-◌, ◌<◌, ◌≤◌, ◌++◌, ℕ, List, IsPermutation, length, map, nat_eq, slice_index_or}
use Rattle.std.specs.List.{filter, flat_map, All}
use Rattle.fr_base.specs.declared.answer.DifferenceRow.{DifferenceRow}
use Rattle.fr_base.specs.declared.answer.GrantRow.{GrantRow}
use Rattle.fr_base.specs.declared.answer.Sending.{Sending}
use Rattle.fr_base.specs.declared.channel.Channels.TheVariants.{AB}
use Rattle.fr_base.specs.declared.params.Params.{Params}
use Rattle.fr_picture.specs.declared.drawing.columns.Place.{Place}
use Rattle.fr_picture.specs.declared.drawing.Drawing.{Drawing}
use Rattle.fr_picture.specs.declared.drawing.lane.Lane.{Lane}
use Rattle.fr_picture.specs.Places.{AreAt, AreHome, AreInOrder, IsNamed, IsWide, OpensFirst, lane_width, shift_of, lane_of}
use Rattle.fr_picture.specs.Shown.{is_used, shown_of}
use Rattle.fr_picture.specs.Rectangles.{AreApart, AreFilled, cells_in}

-- the grants of a lane, and the cells of its rectangles
abbrev pub lane_grants : Lane → List GrantRow
lane_grants l = l.grants.items

abbrev pub lane_cells : Lane → List Sending
lane_cells l = cells_in l.rectangles.items

-- all grants, and all cells, that lanes draw
unfoldable pub drawn_grants : List Lane → List GrantRow
drawn_grants lanes = flat_map lane_grants lanes

unfoldable pub drawn_cells : List Lane → List Sending
drawn_cells lanes = flat_map lane_cells lanes

-- of these grants, and of these cells, those of lane k, in their order
unfoldable pub held_in : ℕ → List GrantRow → List GrantRow
held_in k holds = filter (λ g. nat_eq (lane_of g.slot g.channel) k) holds

unfoldable pub sent_in : ℕ → List Sending → List Sending
sent_in k sendings = filter (λ s. nat_eq (lane_of s.slot s.channel) k) sendings

-- each lane has the grants that it had, and behind them these of its own, in their order
abbrev pub HoldMore : List Lane → List GrantRow → List Lane → Type 0
HoldMore old holds new = (k : ℕ) (l : Lane) → k < 2046 → lane_grants (slice_index_or new k l) ≡ lane_grants (slice_index_or old k l) ++ held_in k holds

-- each lane has the grants that it had
abbrev pub HoldStill : List Lane → List Lane → Type 0
HoldStill old new = (k : ℕ) (l : Lane) → lane_grants (slice_index_or new k l) ≡ lane_grants (slice_index_or old k l)

-- each lane has the cells that it had, and behind them these of its own, in their order
abbrev pub HaveMore : List Lane → List Sending → List Lane → Type 0
HaveMore old sendings new = (k : ℕ) (l : Lane) → k < 2046 → lane_cells (slice_index_or new k l) ≡ lane_cells (slice_index_or old k l) ++ sent_in k sendings

-- each lane has the cells that it had
abbrev pub HaveStill : List Lane → List Lane → Type 0
HaveStill old new = (k : ℕ) (l : Lane) → lane_cells (slice_index_or new k l) ≡ lane_cells (slice_index_or old k l)

-- no two neighbours of a lane could be one rectangle
abbrev pub IsApart : Lane → Type 0
IsApart l = AreApart l.rectangles.items

-- each rectangle of a lane has at least one cycle
abbrev pub IsFilled : Lane → Type 0
IsFilled l = AreFilled l.rectangles.items

-- The lanes draw exactly the grants and the cells of the schedule, each as often as it is there, in the lane of its slot and channel; each
-- cell with its frame, node and supplier. Each lane has its grants, and its cells, in their order. Each rectangle has one cycle at least.
--
-- The lanes stand at the columns of their slots and show what these show. The columns are in the order of the slots. They show exactly each slot
-- that is held or used or has a change, and each gap with its first and its last slot. Before the first column that opens a part each shows nothing. A part is opened
-- only where there is no room, and is named after the first slot that it shows. Each column begins at 4 or further right. Where the cluster has both
-- channels, the lanes of B stand 68 further right than those of A, and behind them. The lanes end at 136 or before.
--
-- A column that shows a slot is as wide as a lane, one that shows a gap is 1 wide, and one that shows nothing is 0 wide. Lanes are as wide as there is
-- room for all, from 2 to 12. A lane is as high as there are cycles.
pub record IsDrawing (p : Params) (holds : List GrantRow) (sendings : List Sending) (changes : List DifferenceRow) (d : Drawing) : Type 0 where
  pub grants : IsPermutation (drawn_grants d.lanes.items) holds
  pub cells : IsPermutation (drawn_cells d.lanes.items) sendings
  pub held_in_turn : (k : ℕ) (l : Lane) → k < length d.lanes.items → lane_grants (slice_index_or d.lanes.items k l) ≡ held_in k holds
  pub in_turn : (k : ℕ) (l : Lane) → k < length d.lanes.items → lane_cells (slice_index_or d.lanes.items k l) ≡ sent_in k sendings
  pub apart : All IsApart d.lanes.items
  pub filled : All IsFilled d.lanes.items
  pub home : AreHome 0 d.lanes.items
  pub columns : List Place
  pub shift : ℕ
  pub shifted : shift ≡ shift_of p.channels
  pub shown : map (λ q. q.shows) columns ≡ shown_of (is_used holds sendings changes) p.static_slots
  pub order : AreInOrder (136 - shift) (136 - shift) columns
  pub opened : OpensFirst columns
  pub named : All IsNamed columns
  pub at : AreAt p.channels shift columns d.lanes.items
  pub beside : p.channels ≡ AB → All (λ q. q.x + q.width ≤ shift) columns
  pub from : All (λ q. 4 ≤ q.x) columns
  pub within : All (λ q. q.x + q.width + shift ≤ 136) columns
  pub wide : All (IsWide d.scale.width) columns
  pub room : d.scale.width ≡ lane_width (132 - shift) (shown_of (is_used holds sendings changes) p.static_slots)
  pub high : (d.scale.cycles ≡ p.cycles) × (d.scale.height ≡ p.cycles + 5)
