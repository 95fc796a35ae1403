use Rattle.fr_world.specs.declared.edit.Edit.TheVariants.{NewSupplier}
use Rattle.fr_store.proofs.ApplyLemmas.{supplier_applied}
use Rattle.fr_store.proofs.CallLemmas.{edit_made, seen}
use Rattle.fr_store.proofs.applying.joining.add_supplier.Goals as goal

pub returns-clause-carried : goal.returns-clause-carried
returns-clause-carried g c =
    let s = c.args.name.now in
    let key = c.args.key.now in
    let old = c.args.tx.now in
    let new = c.insert.new.tx in
    edit_made g.S.Store _ (NewSupplier s key) old new c.in_ok-insert.ensures
    (λ changed cluster b stands fits. supplier_applied s key (seen g.S.Store old) (seen g.S.Store new) changed cluster b stands fits)
