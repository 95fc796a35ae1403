use Rattle.fr_tables.specs.Statements.{without_signal}
use Rattle.fr_base.proofs.SoundTables.{value_of}
use Rattle.fr_base.specs.declared.request.FrameChange.TheVariants.{DropSignal}
use Rattle.fr_store.proofs.CallLemmas.{own_then}
use Rattle.fr_store.proofs.FrameEditLemmas.{signal_dropped}
use Rattle.fr_store.proofs.applying.frames.drop_signal.Goals as goal

pub returns : goal.returns
returns g c =
    let key = c.args.key.now in
    own_then (without_signal key c.args.signal.now) key.variant key.supplier key.frame (DropSignal c.args.signal.now) _ c.in_ok-make_own.ensures c.delete.ensures c.done.ensures value_of
    (λ changed cluster b x frame stands is there own fits counted. signal_dropped key.variant key.supplier key.frame _ _ cluster b x stands is own frame there c.args.signal.now changed)
