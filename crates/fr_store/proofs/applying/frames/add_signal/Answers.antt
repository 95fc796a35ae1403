use Rattle.fr_tables.specs.Statements.{signal_row, with_signal}
use Rattle.fr_base.proofs.SoundTables.{value_of}
use Rattle.fr_base.specs.declared.request.FrameChange.TheVariants.{AddSignal}
use Rattle.fr_store.proofs.CallLemmas.{own_then}
use Rattle.fr_store.proofs.FrameEditLemmas.{signal_added}
use Rattle.fr_store.proofs.applying.frames.add_signal.Goals as goal

pub returns : goal.returns
returns g c =
    let key = c.args.key.now in
    own_then (with_signal (signal_row key c.args.signal.now)) key.variant key.supplier key.frame (AddSignal c.args.signal.now) _ c.in_ok-make_own.ensures c.insert.ensures c.done.ensures value_of
    (λ changed cluster b x frame stands is there own fits counted. signal_added key.variant key.supplier key.frame _ _ cluster b x stands is own frame there c.args.signal.now changed)
