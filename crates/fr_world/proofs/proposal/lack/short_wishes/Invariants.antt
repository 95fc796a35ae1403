use Rattle.std.proofs.Common.{◌≡◌, filter, map, take}
use Rattle.fr_base.specs.Lacks.{is_short}
use Rattle.fr_world.proofs.proposal.lack.short_wishes.Given as goal

-- those before
abbrev pub invariant-loop-one : goal.invariant-loop-one
invariant-loop-one l = l.wishes.items ≡ map (λ g. g.asked) (filter (is_short l.node l.channels) (take l.one-index l.given))
