use Rattle.std.proofs.Common.{◌∙◌, ap, map, sym}
use Rattle.fr_base.specs.Cluster.{ClusterFile}
use Rattle.fr_base.specs.declared.actor.Actor.{Actor}
use Rattle.fr_office.specs.Shown.{seen_names}
use Rattle.fr_office.proofs.SplitLaws.{names-listed}
use Rattle.fr_office.proofs.queries.suppliers.seen_suppliers.Goals as goal

pub returns-in_ok-names-in-Integrator : goal.returns-in_ok-names-in-Integrator
unfolding seen_names
returns-in_ok-names-in-Integrator g c k b stood =
    c.in_ok-names-in-Integrator.ensures
    ∙ ap (λ (f : ClusterFile). map (λ s. s.name) f.suppliers) (c.config.ensures.config k b stood)
    ∙ names-listed b
    ∙ ap (λ (a : Actor). seen_names a b) (sym c.in-Integrator.is)
