use Rattle.std.proofs.Common.{◌≡◌, ◌∙◌, ◌++◌, [], ◌∷◌, true, sym, ap, subst, append-nil}
use Rattle.std.specs.List.{cons_option}
use Rattle.fr_base.specs.Lacks.{open_slots, short_wishes}
use Rattle.fr_base.specs.Turns.{in_turn, same_kind}
use Rattle.std.specs.Prelude.{All}
use Rattle.fr_world.proofs.LackSlots.{lacks-none, lacks-some, short-kind}
use Rattle.fr_world.proofs.proposal.lack.push_lack.Goals as goal
use Rattle.fr_world.proofs.proposal.lack.push_lack.Goals.{then-slots-ne0+in_ok-push, else-slots-ne0}

pub returns-clause-ok : goal.returns-clause-ok
returns-clause-ok c =
    let p = c.args.params.now in
    let given = c.args.given.now in
    let n = c.args.node in
    let cs = c.args.channels in
    let short = c.deref.ensures.value ∙ c.in_ok-wishes.ensures in
    let all = subst (All (λ asked. same_kind asked.wish.channels cs ≡ true)) (sym short) (short-kind given n cs) in
    let is : c.in_ok-slots.slots ≡ open_slots p 0 [] (in_turn p (short_wishes given n cs)) = c.in_ok-slots.ensures.ok all ∙ ap (λ wishes. open_slots p 0 [] (in_turn p wishes)) short in
    elim c.if-slots-ne0.branch [
      | then-slots-ne0+in_ok-push w ↦
          w.lacks-is ∙ w.in_ok-push.ensures.ok ∙ ap (λ row. c.args.lacks.now ++ cons_option row []) (sym (lacks-some p given n cs c.in_ok-slots.slots is w.if-slots-ne0.true))
      | else-slots-ne0 w ↦
          w.lacks-is ∙ sym (append-nil c.args.lacks.now) ∙ ap (λ row. c.args.lacks.now ++ cons_option row []) (sym (lacks-none p given n cs c.in_ok-slots.slots is w.if-slots-ne0.false))
    ]
