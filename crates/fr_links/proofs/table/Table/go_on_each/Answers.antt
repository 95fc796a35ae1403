use Rattle.fr_links.proofs.Turned.{goes_on_one, goes_on_same}
use Rattle.fr_links.proofs.table.Table.go_on_each.Goals as goal

pub loop-event-init : goal.loop-event-init
loop-event-init g c = goes_on_same _ _ _ c.args.self.now

pub loop-event-preserved : goal.loop-event-preserved
loop-event-preserved g c =
    let one = c.go_on.ensures in
    goes_on_one _ _ _ _ _ c.go_on.new.self _ c.loop-event.invariant one.others one.own one.told one.queue
