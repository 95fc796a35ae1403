use Rattle.std.proofs.Common.{◌≡◌, ◌∙◌, ◌++◌, ◌∷◌, [], ap, length, map, rules, subst, sym}
use Rattle.fr_base.specs.Queries.{placements_in}
use Rattle.fr_world.specs.Pages.{frame_data, frame_of}
use Rattle.fr_world.specs.Sendings.{HaveSenders, filled, sent_by}
use Rattle.fr_world.specs.declared.triggerings.FrameSender.{FrameSender}
use Rattle.fr_world.proofs.TriggeringLaws.{filled-all, placements_in-filled, senders-all}
use Rattle.fr_world.proofs.triggerings.Triggerings.push_frame.Goals as goal

pub invariant_of-self-2 : goal.invariant_of-self-2
invariant_of-self-2 c =
    let sender : FrameSender = record { supplier = c.args.supplier; frame = c.args.name; node = c.args.frame.now.node } in
    let placements = placements_in (frame_of (frame_data c.args.frame.now)) in
    let last : c.len-sender.result ≡ length c.self.inside.senders.items = search rules in
    let pushed = c.push_placements.ensures ∙ ap (λ ps. ps ++ map (sent_by c.len-sender.result) placements) c.in_ok-reserve.ensures.items in
    subst (λ ss. HaveSenders ss c.push_placements.new.triggerings.items) (sym c.in_ok-push.ensures.items)
    (subst (HaveSenders (c.self.inside.senders.items ++ sender ∷ [])) (sym pushed)
    (senders-all c.self.inside.senders.items sender c.self.inside.triggerings.items c.len-sender.result placements last c.self.invariant))

pub returns-clause-ok : goal.returns-clause-ok
returns-clause-ok c =
    let sender : FrameSender = record { supplier = c.args.supplier; frame = c.args.name; node = c.args.frame.now.node } in
    let placements = placements_in (frame_of (frame_data c.args.frame.now)) in
    let last : c.len-sender.result ≡ length c.self.inside.senders.items = search rules in
    let pushed = c.push_placements.ensures ∙ ap (λ ps. ps ++ map (sent_by c.len-sender.result) placements) c.in_ok-reserve.ensures.items in
    (λ i. filled (c.in_ok-push.ensures.items i) (pushed i))
    ∙ filled-all c.self.inside.senders.items sender c.self.inside.triggerings.items c.len-sender.result placements last c.self.invariant
    ∙ (λ i. c.self.view_is i ++ placements_in-filled (c.args.supplier, c.args.name) (frame_of (frame_data c.args.frame.now)) i)
