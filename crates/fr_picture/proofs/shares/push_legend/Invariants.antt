use Rattle.std.proofs.Common.{◌≡◌, ◌++◌, take}
use Rattle.std.specs.List.{flat_map}
use Rattle.std.specs.String.{string_bytes}
use Rattle.fr_picture.specs.Shares.{share_text}
use Rattle.fr_picture.proofs.shares.push_legend.Given as goal

-- the text of those up to here
abbrev pub invariant-loop-share : goal.invariant-loop-share
invariant-loop-share l = string_bytes l.out ≡ string_bytes l.initial.out ++ flat_map (share_text) (take l.share-index l.shares)
