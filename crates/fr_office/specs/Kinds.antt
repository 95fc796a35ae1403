-- Kinds: rows of frames, of each kind a list.
use Rattle.std.specs.Prelude.{List, ◌++◌}

pub record ByKind (R : Type 0) : Type 0 where
  pub frames : List R
  pub placements : List R
  pub signals : List R
  pub gaps : List R

-- rows of each kind, and more behind them
abbrev pub with_more : {R : Type 0} → ByKind R → ByKind R → ByKind R
with_more rows more = record {
  frames = rows.frames ++ more.frames;
  placements = rows.placements ++ more.placements;
  signals = rows.signals ++ more.signals;
  gaps = rows.gaps ++ more.gaps;
}
