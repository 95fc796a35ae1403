use Rattle.std.proofs.Common.{◌≡◌, ℕ, List, ◌++◌, take, vec_len}
use Rattle.std.specs.List.{All}
use Rattle.std.specs.List.Sorted.{IsPermutation}
use Rattle.fr_base.specs.declared.channel.Channels.{Channels}
use Rattle.fr_picture.specs.Lanes.{HaveStill, HoldMore, IsApart, IsFilled, drawn_cells, drawn_grants}
use Rattle.fr_picture.specs.Places.{AreAt, AreHome}
use Rattle.fr_picture.specs.declared.drawing.columns.Place.{Place}
use Rattle.fr_picture.proofs.drawing.add_grants.Given as goal

-- those up to here are drawn
abbrev pub invariant-loop-grant : goal.invariant-loop-grant
invariant-loop-grant l = record {
  len : vec_len l.lanes ≡ 2046;
  drawn : IsPermutation (drawn_grants l.lanes.items) (drawn_grants l.initial.lanes.items ++ take l.grant-index l.grants);
  others : drawn_cells l.lanes.items ≡ drawn_cells l.initial.lanes.items;
  held : HoldMore l.initial.lanes.items (take l.grant-index l.grants) l.lanes.items;
  still : HaveStill l.initial.lanes.items l.lanes.items;
  apart : All IsApart l.initial.lanes.items → All IsApart l.lanes.items;
  filled : All IsFilled l.initial.lanes.items → All IsFilled l.lanes.items;
  at : (channels : Channels) (shift : ℕ) (columns : List Place) → AreAt channels shift columns l.initial.lanes.items → AreAt channels shift columns l.lanes.items;
  home : AreHome 0 l.initial.lanes.items → AreHome 0 l.lanes.items;
}
