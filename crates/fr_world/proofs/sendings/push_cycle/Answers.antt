use Rattle.std.proofs.Common.{◌∙◌, ◌++◌, sym, ap, append-nil, refl, take_all, arith}
use Rattle.fr_base.specs.Channels.{channels_in}
use Rattle.fr_world.specs.FirstPlaces.{place_on}
use Rattle.fr_world.specs.Sendings.{filled, sender_of, sent_in}
use Rattle.fr_world.proofs.ScheduleLaws.{cell, cells-column, column, sent-channel-by, sent-nothing, sent-slot}
use Rattle.fr_world.proofs.sendings.push_cycle.Goals as goal

pub loop-slot-init : goal.loop-slot-init
loop-slot-init c = sym (append-nil c.args.rows.now) ∙ ap (λ more. c.args.rows.now ++ more) (sym (sent-nothing (filled c.args.sendings.now.senders.now c.args.sendings.now.triggerings.now)))

pub loop-channel-init : goal.loop-channel-init
loop-channel-init c = sym (append-nil c.loop-slot.rows) ∙ ap (λ more. c.loop-slot.rows ++ more) (sym (sent-nothing (filled c.args.sendings.now.senders.now c.args.sendings.now.triggerings.now)))

pub loop-channel-preserved : goal.loop-channel-preserved
loop-channel-preserved c =
    let k = c.args.cycle in
    let slot = c.slot-item.result in
    sent-channel-by (λ s. sender_of s.now) c.sender_on-sender.result (filled c.args.sendings.now.senders.now c.args.sendings.now.triggerings.now) k slot c.as_slice-channel-items.result.now c.loop-channel.channel-index _ _ c.loop-slot.rows c.loop-channel.rows _ c.loop-channel-test.true refl c.loop-channel.invariant
    (c.sender_on-sender.ensures (cell k slot _) (ap (place_on _) c.places_in-places.ensures ∙ c.requires.first (cell k slot _)))
    c.in_ok-push_sending.ensures

pub loop-slot-preserved : goal.loop-slot-preserved
loop-slot-preserved c =
    let fs = filled c.args.sendings.now.senders.now c.args.sendings.now.triggerings.now in
    let k = c.args.cycle in
    let slot = c.slot-item.result in
    let chs = channels_in c.args.channels in
    sent-slot fs k chs c.args.slots.now c.loop-slot.slot-index slot c.args.rows.now c.loop-slot.rows _ c.loop-slot-test.true c.slot-item.is c.loop-slot.invariant
    (c.loop-channel.invariant
    ∙ (λ i. c.loop-slot.rows ++ sent_in fs (column k slot (take_all c.loop-channel.channel-index c.as_slice-channel-items.result.now (omega (arith, c.loop-channel-test.false)) i)))
    ∙ (λ i. c.loop-slot.rows ++ sent_in fs (column k slot (c.as_slice-channel-items.ensures i)))
    ∙ ap (λ cells. c.loop-slot.rows ++ sent_in fs cells) (sym (cells-column k slot chs)))
