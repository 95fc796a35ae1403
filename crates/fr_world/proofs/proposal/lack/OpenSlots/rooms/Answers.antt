use Rattle.std.proofs.Common.{◌≡◌, ◌∙◌, suc, ◌+◌, ◌++◌, [], ◌∷◌, sym, ap, subst, arith}
use Rattle.std.specs.List.{range_with_len}
use Rattle.fr_world.specs.Proposals.{ShowRooms}
use Rattle.fr_world.proofs.ScheduleLaws.{range-more}
use Rattle.fr_world.proofs.proposal.lack.OpenSlots.rooms.Goals as goal

pub loop-number-preserved : goal.loop-number-preserved
loop-number-preserved c =
    let number = c.loop-number.number in
    let next : c.in_ok-slot.slot ≡ 1 + number = omega (arith, c.in_ok-slot.ensures.slot) in
    let more : suc number ≡ number + 1 = omega arith in
    record {
      params = c.in_ok-push.ensures.params ∙ c.loop-number.invariant.params;
      kind = c.in_ok-push.ensures.kind ∙ c.loop-number.invariant.kind;
      rooms = subst (ShowRooms c.push.new.self c.args.self.now.cells)
          (ap (λ s. range_with_len 1 number ++ s ∷ []) next ∙ sym (range-more 1 number) ∙ ap (range_with_len 1) more)
          (c.in_ok-push.ensures.rooms (range_with_len 1 number) c.loop-number.invariant.rooms);
    }
