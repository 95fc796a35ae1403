use Rattle.std.proofs.Common.{◌≡◌, ◌∙◌, ◌+◌, ◌++◌, [], ◌∷◌, sym, ap, subst, arith}
use Rattle.std.specs.List.{range_with_len}
use Rattle.fr_world.specs.Proposals.{ShowRooms}
use Rattle.fr_world.proofs.ScheduleLaws.{range-more}
use Rattle.fr_world.proofs.proposal.lack.OpenSlots.open.Goals as goal

pub returns-clause-rooms : goal.returns-clause-rooms
returns-clause-rooms c =
    let count = c.args.self.now.count in
    let slot = c.in_ok-slot.slot in
    let next : slot ≡ 1 + count = omega (arith, c.in_ok-slot.ensures.slot) in
    subst (ShowRooms c.push.new.self c.args.self.now.cells)
    (ap (λ s. range_with_len 1 count ++ s ∷ []) next ∙ sym (range-more 1 count) ∙ ap (range_with_len 1) (sym (c.get-self.ensures.value ∙ c.in_ok-slot.ensures.slot)))
    (c.in_ok-push.ensures.rooms (range_with_len 1 count) c.requires.rooms)
