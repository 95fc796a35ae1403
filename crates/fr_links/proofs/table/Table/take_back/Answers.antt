use Rattle.std.proofs.Common.{◌≡◌, ◌∙◌, Some, ap, subst, sym}
use Rattle.slab.specs.Slab.{get}
use Rattle.fr_links.proofs.Connecting.{moved_kept}
use Rattle.fr_links.proofs.Slots.{Follows-refl, answered_stays}
use Rattle.fr_links.specs.Connection.{Follows, IsAnswered}
use Rattle.fr_links.proofs.table.Table.take_back.Goals as goal

pub returns-clause-own : goal.returns-clause-own
returns-clause-own g c =
    let key = c.args.self.now.links.vacant_key in
    let w = c.watch-is_told.ensures in
    let held = c.watch-is_told.new.self in
    let here : c.in-Ok.at ≡ key = c.in-Ok.ensures.key ∙ ap (λ links. links.vacant_key) c.note.ensures.links in
    let there : get c.insert.new.self key ≡ Some held = subst (λ k. get c.insert.new.self k ≡ Some held) here c.in-Ok.ensures.updates.changed in
    answered_stays _ _ c.args.reply.link held _ _ there (c.keep_bound.ensures.stay key)
    (moved_kept _ _ _ _ _ _ _ c.move_on-lasts.ensures.moved (subst (Follows _) (sym w.stage) (Follows-refl _)) w.remaining w.contents w.inbox w.outbox)
    (subst IsAnswered (sym w.stage) c.move_on-lasts.ensures.stage)
