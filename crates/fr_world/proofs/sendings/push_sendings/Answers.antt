use Rattle.std.proofs.Common.{◌∙◌, ◌++◌, [], ◌∷◌, ap}
use Rattle.std.proofs.lemmas.Result.{on_ok_weaker}
use Rattle.fr_base.specs.Cells.{cells_in}
use Rattle.fr_base.specs.Channels.{channels_in}
use Rattle.fr_world.specs.Sendings.{filled, sent_in}
use Rattle.fr_world.proofs.ScheduleLaws.{sent-one}
use Rattle.fr_world.proofs.sendings.push_sendings.Goals as goal

pub returns : goal.returns
returns c =
    let ss = c.args.sendings.now.senders.now in
    let ps = c.args.sendings.now.triggerings.now in
    let k = c.args.cycle in
    on_ok_weaker c.push_cycle.result
    (λ last. last ∙ (λ i. c.args.rows.now ++ sent_in (filled ss ps) (cells_in (k ∷ []) (c.deref-2.ensures.value i) (channels_in (c.channels.ensures i))))
    ∙ ap (λ more. c.args.rows.now ++ more) (sent-one c.args.params.now ss ps c.in_ok-slots.slots.items k c.in_ok-slots.ensures))
    c.push_cycle.ensures
