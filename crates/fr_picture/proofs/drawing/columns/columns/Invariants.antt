use Rattle.std.proofs.Common.{◌≡◌, ◌+◌, ◌≤◌, map, take, vec_len}
use Rattle.std.specs.List.{All}
use Rattle.fr_picture.specs.Places.{AreInOrder, IsNamed, IsWide}
use Rattle.fr_picture.proofs.ColumnLemmas.{Until, end_of}
use Rattle.fr_picture.proofs.drawing.columns.columns.Given as goal

-- a column for all that is shown up to here, in order
abbrev pub invariant-loop-shows : goal.invariant-loop-shows
invariant-loop-shows l = record {
  len : vec_len l.columns ≡ l.shows-index;
  shown : map (λ p. p.shows) l.columns.items ≡ take l.shows-index l.shown;
  least : 4 ≤ l.end;
  small : l.end ≤ l.bands.end;
  last : end_of l.bands.end l.columns.items ≡ l.end;
  order : AreInOrder l.bands.end l.bands.end l.columns.items;
  opened : Until (l.end ≡ l.bands.end) l.columns.items;
  named : All IsNamed l.columns.items;
  wide : All (IsWide l.bands.width) l.columns.items;
  from : All (λ p. 4 ≤ p.x) l.columns.items;
  beside : All (λ p. p.x + p.width ≤ l.bands.end) l.columns.items;
  within : All (λ p. p.x + p.width ≤ 136) l.columns.items;
}
