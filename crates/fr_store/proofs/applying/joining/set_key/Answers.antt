use Rattle.fr_world.specs.declared.edit.Edit.TheVariants.{SetKey}
use Rattle.fr_store.proofs.ApplyLemmas.{key_applied}
use Rattle.fr_store.proofs.CallLemmas.{edit_made, seen}
use Rattle.fr_store.proofs.applying.joining.set_key.Goals as goal

pub returns-clause-carried : goal.returns-clause-carried
returns-clause-carried g c =
    let s = c.args.name.now in
    let key = c.args.key.now in
    let old = c.args.tx.now in
    let new = c.set_key.new.tx in
    edit_made g.S.Store _ (SetKey s key) old new c.in_ok-set_key.ensures
    (λ changed cluster b stands fits. key_applied s key (seen g.S.Store old) (seen g.S.Store new) changed cluster b stands fits)
