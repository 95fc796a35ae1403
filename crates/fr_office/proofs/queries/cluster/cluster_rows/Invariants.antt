use Rattle.std.proofs.Common.{◌≡◌, ◌++◌, take}
use Rattle.std.specs.List.{flat_map}
use Rattle.fr_base.specs.Queries.{figures}
use Rattle.fr_office.specs.Shown.{supplier_told}
use Rattle.fr_office.proofs.queries.cluster.cluster_rows.Given as goal

-- the figures, and the suppliers so far
abbrev pub invariant-loop-supplier : goal.invariant-loop-supplier
invariant-loop-supplier l = l.rows ≡ figures l.config.cluster.params ++ flat_map (supplier_told l.actor) (take l.supplier-index l.supplier-items)
