use Rattle.std.proofs.Common.{◌≡◌, ◌∙◌, ap, sym, subst}
use Rattle.fr_base.specs.Cluster.{IsWellFormed}
use Rattle.fr_base.specs.Joining.{with_supplier}
use Rattle.fr_base.proofs.SuppliersLaws.{joined_formed}
use Rattle.fr_base.proofs.config.Config.joined.Goals as goal

pub new-requires : goal.new-requires
new-requires c =
    let list : c.insert.new.self ≡ with_supplier c.args.supplier c.args.self.now.suppliers = c.in_ok-insert.ensures.ok ∙ ap (with_supplier c.args.supplier) (c.in_ok-suppliers.ensures ∙ c.suppliers.ensures.value) in
    subst IsWellFormed (λ i. record { cluster = record { params = sym c.params.ensures.value i; integrator = sym c.integrator.ensures i }; suppliers = sym list i })
    (joined_formed c.args.self.now c.args.supplier.name c.args.supplier.key c.suppliers.ensures.formed c.as_str-name.ensures.is_name c.as_str-key.ensures.is_key (sym c.in_ok-admits.ensures))
