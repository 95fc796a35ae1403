use Rattle.std.proofs.Common.{◌≡◌, map, take}
use Rattle.fr_picture.specs.Shares.{share_of}
use Rattle.fr_picture.proofs.shares.shares_of.Given as goal

-- the suppliers up to here
abbrev pub invariant-loop-name : goal.invariant-loop-name
invariant-loop-name l = l.shares.items ≡ map (share_of l.names l.cycles l.grants l.cells) (take l.name-index l.names)
