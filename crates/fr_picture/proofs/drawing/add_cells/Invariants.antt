use Rattle.std.proofs.Common.{◌≡◌, ℕ, List, ◌++◌, take, vec_len}
use Rattle.std.specs.List.{All}
use Rattle.std.specs.List.Sorted.{IsPermutation}
use Rattle.fr_base.specs.declared.channel.Channels.{Channels}
use Rattle.fr_picture.specs.Lanes.{HaveMore, HoldStill, IsApart, IsFilled, drawn_cells, drawn_grants}
use Rattle.fr_picture.specs.Places.{AreAt, AreHome}
use Rattle.fr_picture.specs.declared.drawing.columns.Place.{Place}
use Rattle.fr_picture.proofs.drawing.add_cells.Given as goal

-- those up to here are drawn
abbrev pub invariant-loop-cell : goal.invariant-loop-cell
invariant-loop-cell l = record {
  len : vec_len l.lanes ≡ 2046;
  drawn : IsPermutation (drawn_cells l.lanes.items) (drawn_cells l.initial.lanes.items ++ take l.cell-index l.cells);
  in_turn : HaveMore l.initial.lanes.items (take l.cell-index l.cells) l.lanes.items;
  others : drawn_grants l.lanes.items ≡ drawn_grants l.initial.lanes.items;
  still : HoldStill l.initial.lanes.items l.lanes.items;
  apart : All IsApart l.initial.lanes.items → All IsApart l.lanes.items;
  filled : All IsFilled l.initial.lanes.items → All IsFilled l.lanes.items;
  at : (channels : Channels) (shift : ℕ) (columns : List Place) → AreAt channels shift columns l.initial.lanes.items → AreAt channels shift columns l.lanes.items;
  home : AreHome 0 l.initial.lanes.items → AreHome 0 l.lanes.items;
}
