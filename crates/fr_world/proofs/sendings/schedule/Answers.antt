use Rattle.std.proofs.Common.{◌∙◌, ◌+◌, ◌++◌, [], ◌∷◌, sym, arith}
use Rattle.fr_base.specs.Cells.{cells_in}
use Rattle.fr_base.specs.Channels.{channels_in}
use Rattle.fr_world.specs.Sendings.{filled, sent_in}
use Rattle.fr_world.proofs.ScheduleLaws.{sent-nothing, sent-cycle, sent-all}
use Rattle.fr_world.proofs.sendings.schedule.Goals as goal

pub loop-cycle-init : goal.loop-cycle-init
loop-cycle-init c = c.in_ok-rows.ensures ∙ sym (sent-nothing (filled c.args.sendings.now.senders.now c.args.sendings.now.triggerings.now))

pub loop-cycle-preserved : goal.loop-cycle-preserved
loop-cycle-preserved c =
    let k = c.loop-cycle.cycle in
    sent-cycle (filled c.args.sendings.now.senders.now c.args.sendings.now.triggerings.now) c.in_ok-slots.slots.items (channels_in c.args.params.now.channels) _ _ k (k + 1) (omega arith) c.loop-cycle.invariant
    (c.in_ok-push_cycle.ensures
    ∙ (λ i. c.loop-cycle.rows ++ sent_in (filled c.args.sendings.now.senders.now c.args.sendings.now.triggerings.now) (cells_in (k ∷ []) (c.deref-in-loop-cycle.ensures.value i) (channels_in (c.channels.ensures i)))))

pub returns : goal.returns
returns c =
    sent-all c.args.params.now c.args.sendings.now.senders.now c.args.sendings.now.triggerings.now c.in_ok-slots.slots.items c.loop-cycle.rows c.loop-cycle.cycle (omega arith) c.in_ok-slots.ensures c.loop-cycle.invariant
