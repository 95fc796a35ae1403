use Rattle.std.proofs.Common.{◌∙◌}
use Rattle.fr_links.specs.Connections.{at}
use Rattle.fr_links.proofs.Queueing.{queues_on}
use Rattle.fr_links.proofs.Slots.{Stays-trans, one_stays}
use Rattle.fr_links.proofs.table.Table.postpone.Goals as goal

pub loop-key-preserved : goal.loop-key-preserved
loop-key-preserved g c =
    let i = c.loop-key.invariant in
    let one = c.postpone_one.ensures in
    let now = c.postpone_one.new.self in
    record {
      stay = λ key. Stays-trans (at c.args.self.now key) (at c.loop-key.self key) (at now key) (i.stay key) (one_stays c.loop-key.self now c.loop-key.key one.others one.own key);
      vacant = one.vacant ∙ i.vacant;
      queue = queues_on _ _ _ i.queue one.queue;
    }
