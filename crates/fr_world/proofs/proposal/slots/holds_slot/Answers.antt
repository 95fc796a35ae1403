use Rattle.std.proofs.Common.{◌≡◌, ◌∙◌, ◌+◌, ◌<◌, true, sym, ap, arith}
use Rattle.fr_base.specs.RefusedWishes.{holds}
use Rattle.fr_world.specs.Pages.{own_rows_of}
use Rattle.fr_world.proofs.RoomLaws.{one-slot}
use Rattle.fr_world.proofs.ScheduleLaws.{slot-within}
use Rattle.fr_world.proofs.TurnLaws.{any-found, any-nowhere}
use Rattle.fr_world.proofs.proposal.slots.holds_slot.Goals as goal

pub returns-then-holds : goal.returns-then-holds
returns-then-holds c =
    let number = c.loop-number.number in
    let t = holds (own_rows_of c.args.page.now) c.args.node c.args.channels in
    let all : c.static_slots-number-end.result ≡ c.args.page.now.params.static_slots = c.static_slots-number-end.ensures.value ∙ ap (λ p. p.static_slots) c.params.ensures in
    let found = slot-within number c.new.result c.loop-number.auto.number (omega (arith, c.loop-number-test.true, c.static_slots-number-end.ensures.range.1)) c.new.ensures in
    let same : c.in-Some.slot ≡ number = one-slot c.new.result _ _ c.in-Some.is found in
    any-found t 1 c.args.page.now.params.static_slots number c.loop-number.auto.number (omega (arith, c.loop-number-test.true, all)) (ap t (sym same) ∙ sym c.holds.ensures ∙ c.if-holds.true)

pub returns : goal.returns
returns c =
    let all : c.static_slots-number-end.result ≡ c.args.page.now.params.static_slots = c.static_slots-number-end.ensures.value ∙ ap (λ p. p.static_slots) c.params.ensures in
    any-nowhere (holds (own_rows_of c.args.page.now) c.args.node c.args.channels) 1 c.args.page.now.params.static_slots (λ k low high. c.loop-number.invariant k low (omega (arith, c.loop-number-test.false, all, high)))
