use Rattle.std.proofs.Common.{◌≡◌, ◌++◌, map, take}
use Rattle.fr_office.specs.Shown.{node_of}
use Rattle.fr_office.proofs.queries.nodes.push_nodes.Given as goal

-- the nodes so far
abbrev pub invariant-loop-node : goal.invariant-loop-node
invariant-loop-node l = l.rows ≡ l.fn.rows ++ map (node_of l.supplier) (take l.node-index l.nodes)
