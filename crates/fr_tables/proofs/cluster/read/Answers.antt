use Rattle.std.proofs.Common.{rules, ◌≡◌, Ok, true}
use Rattle.fr_base.specs.Parameters.{check_params}
use Rattle.fr_base.specs.Cluster.{is_cluster}
use Rattle.fr_tables.proofs.ConfigLemmas.{well_formed}
use Rattle.fr_tables.proofs.cluster.read.Goals as goal

pub new-requires : goal.new-requires
new-requires c =
    let params : check_params c.in_ok-params.params ≡ Ok c.in_ok-params.params = c.in_ok-params.ensures.checked in
    let tested : is_cluster c.in_ok-params.integrator c.in_ok-suppliers.suppliers ≡ true = search rules in
    well_formed _ params tested c.in_ok-params.ensures.formed c.in_ok-suppliers.ensures.formed
