use Rattle.std.proofs.Common.{◌≡◌, ◌∙◌, true, cond, eqb, ◌&&◌, ◌||◌, sym, ap, subst}
use Rattle.fr_base.specs.Cycles.{has_cycle, is_bit_set}
use Rattle.fr_base.specs.Channels.{has_channel}
use Rattle.fr_world.specs.Masks.{ShowFilled, has_words, word_on, words_at}
use Rattle.fr_world.proofs.MaskLaws.{shown-as, shown-more}
use Rattle.fr_world.proofs.RowLaws.{pairs}
use Rattle.fr_world.proofs.mask_occupancy.MaskOccupancy.add.Goals as goal

pub invariant_of-self : goal.invariant_of-self
invariant_of-self c = shown-as (pairs c.self.inside.rows.rows.items) c.self.inside.masks.slots.entries c.make_room.new.self.slots.entries c.make_room.ensures.same c.self.invariant

pub invariant_of-self-in_err-push : goal.invariant_of-self-in_err-push
invariant_of-self-in_err-push c =
    subst (λ ps. ShowFilled ps c.make_room.new.self.slots.entries) (sym c.in_err-push.ensures.err)
    (shown-as (pairs c.self.inside.rows.rows.items) c.self.inside.masks.slots.entries c.make_room.new.self.slots.entries c.make_room.ensures.same c.self.invariant)

pub invariant_of-self-2 : goal.invariant_of-self-2
invariant_of-self-2 c =
    let q = c.args.placement.now in
    let olds = c.self.inside.masks.slots.entries in
    let room = c.make_room.new.self.slots.entries in
    let was = shown-as (pairs c.self.inside.rows.rows.items) olds room c.make_room.ensures.same c.self.invariant in
    let there : has_words room q.slot ≡ true = c.in_ok-make_room.ensures.there in
    subst (λ ps. ShowFilled ps c.put.new.self.slots.entries) (sym c.in_ok-push.ensures.ok)
    (shown-more (pairs c.self.inside.rows.rows.items) c.args.frame q room c.put.new.self.slots.entries c.mark.new.self was
    (λ s. c.put.ensures s ∙ ap (λ b. cond (eqb q.slot s && b) c.mark.new.self (words_at room s)) there)
    (λ x k. c.mark.ensures x k ∙ ap (λ f. is_bit_set (word_on x f) k || (has_channel q.channels x && has_cycle q.cycles k)) (c.of-filled.ensures ∙ sym (c.make_room.ensures.same q.slot))))
