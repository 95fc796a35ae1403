use Rattle.std.proofs.Common.{◌∙◌, ap, is_ok}
use Rattle.fr_base.specs.Joining.{with_supplier}
use Rattle.fr_base.proofs.JoiningLemmas.{inserted}
use Rattle.fr_base.proofs.config.Suppliers.insert.Goals as goal

pub returns-clause-ok : goal.returns-clause-ok
returns-clause-ok c =
    inserted c.self.inside.list.items c.deref.result.now c.insert.new.self.items c.args.supplier c.len.result c.unwrap_or-index.result c.first_after.result (is_ok c.insert.result)
    c.deref.ensures.value c.first_after.ensures (c.len.ensures ∙ c.self.inside.list.ok.0) c.unwrap_or-index.ensures c.insert.ensures.items (ap is_ok c.in_ok-insert.was)
    ∙ ap (with_supplier c.args.supplier) c.self.view_is
