use Rattle.std.proofs.Common.{◌≡◌, ◌+◌, [], take, vec_len}
use Rattle.std.specs.List.{All}
use Rattle.fr_picture.specs.Lanes.{IsApart, IsFilled, drawn_cells, drawn_grants}
use Rattle.fr_picture.specs.Places.{AreAt, AreHome}
use Rattle.fr_picture.proofs.drawing.lane.empty_lanes.Given as goal

-- nothing is drawn in the lanes up to here
abbrev pub invariant-loop-column : goal.invariant-loop-column
invariant-loop-column l = record {
  len : vec_len l.lanes ≡ l.column-index + l.column-index;
  grants : drawn_grants l.lanes.items ≡ [];
  cells : drawn_cells l.lanes.items ≡ [];
  apart : All IsApart l.lanes.items;
  filled : All IsFilled l.lanes.items;
  at : AreAt l.channels l.shift (take l.column-index l.columns) l.lanes.items;
  home : AreHome 0 l.lanes.items;
}
