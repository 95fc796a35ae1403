use Rattle.fr_links.specs.Connections.{at}
use Rattle.fr_links.proofs.Queueing.{queues_on}
use Rattle.fr_links.proofs.Slots.{Stays-trans, one_stays}
use Rattle.fr_links.proofs.table.Table.give_up_some.Goals as goal

pub loop-given_up-preserved : goal.loop-given_up-preserved
loop-given_up-preserved g c =
    let i = c.loop-given_up.invariant in
    let one = c.give_up.ensures in
    let now = c.give_up.new.self in
    let key = c.in-Some-awaited.key in
    record {
      stay = λ k. Stays-trans (at c.args.self.now k) (at c.loop-given_up.self k) (at now k) (i.stay k) (one_stays c.loop-given_up.self now key one.others one.own k);
      queue = queues_on _ _ _ i.queue one.queue;
    }
