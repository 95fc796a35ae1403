use Rattle.std.proofs.Common.{◌≡◌, ◌++◌, take}
use Rattle.std.specs.List.{flat_map}
use Rattle.std.specs.String.{string_bytes}
use Rattle.fr_picture.specs.LaneTexts.{grant_text}
use Rattle.fr_picture.specs.Shares.{number_of}
use Rattle.fr_picture.proofs.lanes.push_grants.Given as goal

-- the text of those up to here
abbrev pub invariant-loop-grant : goal.invariant-loop-grant
invariant-loop-grant l = string_bytes l.out ≡ string_bytes l.initial.out ++ flat_map (λ g. grant_text l.cycles (number_of l.names g.supplier) g) (take l.grant-index l.grants)
