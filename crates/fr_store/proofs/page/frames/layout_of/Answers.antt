use Rattle.std.proofs.Common.{rules}
use Rattle.fr_store.specs.Paging.{signal_shown}
use Rattle.fr_store.proofs.SignalPartLemmas.{one_more}
use Rattle.fr_store.proofs.page.frames.layout_of.Goals as goal

pub loop-row-preserved : goal.loop-row-preserved
loop-row-preserved c =
    one_more signal_shown c.args.rows.now c.loop-row.row-index c.row-item.result c.in_ok-signal_of.field-0 c.args.payload_words c.loop-row.layout c.add.new.self (search rules) (search rules)
    c.in_ok-signal_of.ensures (search rules) c.loop-row.invariant
