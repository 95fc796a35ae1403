use Rattle.std.proofs.Common.{◌≡◌, filter, take}
use Rattle.fr_base.specs.Proposals.{is_of_node}
use Rattle.fr_base.specs.RefusedWishes.{asked_of}
use Rattle.fr_world.proofs.proposal.wishes_of.Given as goal

-- those before
abbrev pub invariant-loop-read : goal.invariant-loop-read
invariant-loop-read l = l.wishes.items ≡ filter (is_of_node l.node) (asked_of (take l.read-index l.reads))
