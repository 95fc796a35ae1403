use Rattle.std.proofs.Common.{subst, sym}
use Rattle.slab.specs.Slab.{get, with_value}
use Rattle.fr_links.specs.Waiting.{IsWaiting}
use Rattle.fr_links.proofs.Standing.{put_beside, put_there, queued_changed}
use Rattle.fr_links.specs.Connections.{Goes, at}
use Rattle.fr_links.proofs.Slots.{put_goes}
use Rattle.fr_links.proofs.table.Table.move_on.Goals as goal

pub returns-then-lasts-clause-own : goal.returns-then-lasts-clause-own
returns-then-lasts-clause-own g c =
    let key = c.args.key in
    let moved = c.move_on-lasts.ensures in
    subst (λ links. Goes g.S.Wire.remaining g.S.Wire.contents (at c.args.self.now key) (get links key)) (sym c.note.ensures.links)
    (put_goes _ _ c.args.self.now.links key c.in-Some.held.now c.move_on-lasts.new.self (sym c.in-Some.ensures.value) moved.moved moved.stage (λ _. moved.inbox))

pub invariant_of-self-2 : goal.invariant_of-self-2
invariant_of-self-2 g c =
    let t = c.args.self.now in
    let key = c.args.key in
    let held = c.in-Some.held.now in
    let moved = c.move_on-lasts.new.self in
    let there = sym c.in-Some.ensures.value in
    record {
      queued = queued_changed t.links (with_value t.links key moved) t.ready.items key t.queued (put_beside t.links key held moved there)
          (λ waits. subst IsWaiting (sym there) (c.move_on-lasts.ensures.ready (subst IsWaiting (put_there t.links key held moved there) waits)));
    }
