use Rattle.std.proofs.Common.{◌≡◌, ◌++◌, filter}
use Rattle.std.specs.List.{flat_map}
use Rattle.fr_base.specs.Proposals.{given_all, given_to, is_of_node}
use Rattle.fr_base.specs.RefusedWishes.{asked_of}
use Rattle.fr_world.specs.Pages.{own_rows_of}
use Rattle.fr_world.proofs.proposal.given_all.Given as goal

-- what the wishes of the nodes so far are given, and those of the nodes that are left
abbrev pub invariant-loop-node : goal.invariant-loop-node
invariant-loop-node l =
    l.given.items ++ flat_map (λ n. given_to (own_rows_of l.page) l.replace l.fn.cells n (filter (is_of_node n) (asked_of l.reads))) l.node-iterator
    ≡ given_all (own_rows_of l.page) l.replace l.fn.cells (asked_of l.reads)
