use Rattle.std.proofs.Common.{◌≡◌, ◌++◌, []}
use Rattle.std.specs.List.{flat_map}
use Rattle.fr_base.specs.Lacks.{lack_rows}
use Rattle.fr_base.specs.Proposals.{node_names}
use Rattle.fr_world.specs.Pages.{own_rows_of}
use Rattle.fr_world.proofs.LackSlots.{lacks_of}
use Rattle.fr_world.proofs.proposal.lack_rows.Given as goal

-- what the nodes so far lack, and those that are left
abbrev pub invariant-loop-node : goal.invariant-loop-node
invariant-loop-node l = l.lacks ++ flat_map (lacks_of l.page.params l.given) l.node-iterator ≡ lack_rows l.page.params l.given (node_names (own_rows_of l.page))
