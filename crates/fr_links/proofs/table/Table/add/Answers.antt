use Rattle.std.proofs.Common.{◌≡◌, Some, subst, sym}
use Rattle.slab.specs.Slab.{get}
use Rattle.fr_links.specs.Connections.{Stays, at}
use Rattle.fr_links.proofs.Slots.{Stays-refl, begun_stays}
use Rattle.fr_links.proofs.Standing.{joined_stays, queued_joins}
use Rattle.fr_links.proofs.table.Table.add.Goals as goal

pub returns-else-is_ready-clause-own : goal.returns-else-is_ready-clause-own
returns-else-is_ready-clause-own g c =
    let key = c.args.self.now.links.vacant_key in
    let held = c.new-held.result in
    let there : get c.insert.new.self key ≡ Some held = subst (λ k. get c.insert.new.self k ≡ Some held) c.in-Ok.ensures.key c.in-Ok.ensures.updates.changed in
    begun_stays _ _ c.args.stream held (get c.insert.new.self key) (at c.note.new.self key) there
    (subst (λ links. Stays (get c.insert.new.self key) (get links key)) (sym c.note.ensures.links) (Stays-refl (get c.insert.new.self key)))
    c.new-held.ensures.begun

pub returns-then-is_ready-clause-own : goal.returns-then-is_ready-clause-own
returns-then-is_ready-clause-own g c =
    let key = c.args.self.now.links.vacant_key in
    let held = c.new-held.result in
    let there : get c.insert.new.self key ≡ Some held = subst (λ k. get c.insert.new.self k ≡ Some held) c.in-Ok.ensures.key c.in-Ok.ensures.updates.changed in
    begun_stays _ _ c.args.stream held (get c.insert.new.self key) (get c.queue.new.links key) there
    (subst (λ k. Stays (get c.insert.new.self k) (get c.queue.new.links k)) c.in-Ok.ensures.key (joined_stays c.insert.new.self _ _ _ _ c.queue.ensures))
    c.new-held.ensures.begun

pub invariant_of-self-then-is_ready : goal.invariant_of-self-then-is_ready
invariant_of-self-then-is_ready g c =
    let t = c.args.self.now in
    record { queued = queued_joins t.links c.insert.new.self _ _ _ _ t.queued c.in-Ok.ensures.updates.others c.queue.ensures }
