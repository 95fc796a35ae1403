use Rattle.std.proofs.lemmas.Result.{on_ok_weaker}
use Rattle.fr_text.proofs.RoomLemmas.{set_room, set_none}
use Rattle.fr_text.proofs.report.room.push_room.Goals as goal

pub returns-in_default-clause-ok : goal.returns-in_default-clause-ok
returns-in_default-clause-ok c = set_none c.args.style c.args.places.now _ c.in_default.len_below

pub returns-clause-ok : goal.returns-clause-ok
returns-clause-ok c =
    on_ok_weaker c.push-2.result (λ last. set_room c.args.style c.args.places.now c.first-item.result _ _ _ _
    c.in-len1-up.len_at_least c.first-item.is
    (rw c.before-2.ensures at c.in_ok-push.ensures.ok) (rw c.between.ensures at c.in_ok-push_places.ensures.ok)
    (rw c.after.ensures at last))
    c.push-2.ensures.ok
