use Rattle.std.proofs.Common.{◌≡◌, ◌++◌, take}
use Rattle.std.specs.List.{flat_map}
use Rattle.std.specs.String.{string_bytes}
use Rattle.fr_picture.specs.Overviews.{thumbnail_text}
use Rattle.fr_picture.proofs.overview.push_thumbnails.Given as goal

-- the text of those up to here
abbrev pub invariant-loop-start : goal.invariant-loop-start
invariant-loop-start l = string_bytes l.out ≡ string_bytes l.initial.out ++ flat_map (thumbnail_text l.cycles) (take l.start-index l.starts)
