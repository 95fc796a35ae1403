use Rattle.std.proofs.Common.{◌∙◌, ap, map, sym, subst}
use Rattle.fr_base.specs.Cluster.{IsWellFormed}
use Rattle.fr_base.specs.KeyChanges.{keyed}
use Rattle.fr_base.proofs.KeyLaws.{with_key-formed}
use Rattle.fr_base.proofs.config.Config.with_key.Goals as goal

pub new-requires : goal.new-requires
new-requires c =
    let list = c.in_ok-suppliers.ensures ∙ ap (map (keyed c.args.supplier c.args.key)) c.suppliers.ensures.value in
    subst IsWellFormed (λ i. record { cluster = record { params = sym c.params.ensures.value i; integrator = sym c.integrator.ensures i }; suppliers = sym list i })
    (with_key-formed c.args.self.now c.args.supplier c.args.key c.suppliers.ensures.formed c.as_str-key.ensures.is_key (sym c.in_ok-admits_key.ensures))
