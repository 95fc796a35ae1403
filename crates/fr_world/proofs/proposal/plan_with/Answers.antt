use Rattle.std.proofs.Common.{◌≡◌, ◌∙◌, ◌++◌, [], ◌∷◌, true, false, filter, map, is_some, None, take, take_all, sym, ap, arith, rules}
use Rattle.std.specs.Prelude.{is_none}
use Rattle.fr_base.specs.KeptPlaces.{keep}
use Rattle.fr_base.specs.Proposals.{given_with, held_slots}
use Rattle.fr_base.specs.Turns.{in_turn, places_given, take_places, take_turns, with_place}
use Rattle.fr_base.specs.declared.proposal.Given.{Given}
use Rattle.fr_world.specs.Pages.{own_rows_of}
use Rattle.fr_world.specs.declared.proposal.turns.Plan.{Plan}
use Rattle.fr_world.proofs.KeptRows.{kept-cells, no-place, no-some, not-none}
use Rattle.fr_world.proofs.LackSlots.{mapped-left, mapped-next}
use Rattle.fr_world.proofs.TurnLaws.{kept-next, left-next}
use Rattle.fr_world.proofs.proposal.plan_with.Goals as goal
use Rattle.fr_world.proofs.proposal.plan_with.Goals.{then-is_some+in_ok-give, else-is_some+in_ok-push}

pub loop-one-preserved : goal.loop-one-preserved
loop-one-preserved c =
    let kept = c.deref-one-items.result.now in
    let i = c.loop-one.one-index in
    let one = c.one-item.result in
    let low = c.loop-one-test.true in
    let is = c.one-item.is in
    let old = c.loop-one.plan in
    let olds = c.loop-one.others in
    let before = c.loop-one.invariant in
    elim c.if-is_some.branch [
      | then-is_some+in_ok-give w ↦
          let passes : is_some one.place ≡ true = sym c.is_some.ensures ∙ w.if-is_some.true in
          record {
            cells = ap (λ (plan : Plan). plan.cells) w.plan-is ∙ kept-cells c.args.cells.now kept i one low is old.cells w.give.new.self.cells before.cells w.in_ok-give.ensures.cells;
            given = ap (λ (plan : Plan). plan.given.items) w.plan-is ∙ w.in_ok-give.ensures.given ∙ ap (λ gs. gs ++ one ∷ []) before.given ∙ kept-next (λ (g : Given). is_some g.place) kept i one low is passes;
            others = ap (λ v. v.items) w.others-is ∙ before.others ∙ mapped-left (λ (g : Given). g.asked) (λ (g : Given). is_none g.place) kept i one low is (not-none one.place passes);
          }
      | else-is_some+in_ok-push w ↦
          let fails : is_some one.place ≡ false = sym c.is_some.ensures ∙ w.if-is_some.false in
          let none : one.place ≡ None = no-place one.place fails in
          let pushed : w.push.new.self.items ≡ olds.items ++ one.asked ∷ [] = search rules in
          record {
            cells = ap (λ (plan : Plan). plan.cells) w.plan-is ∙ kept-cells c.args.cells.now kept i one low is old.cells old.cells before.cells (ap (with_place old.cells one.asked.wish.frame) (sym none));
            given = ap (λ (plan : Plan). plan.given.items) w.plan-is ∙ before.given ∙ left-next (λ (g : Given). is_some g.place) kept i one low is fails;
            others = ap (λ v. v.items) w.others-is ∙ pushed ∙ ap (λ gs. gs ++ one.asked ∷ []) before.others ∙ mapped-next (λ (g : Given). g.asked) (λ (g : Given). is_none g.place) kept i one low is (no-some one.place fails);
          }
    ]

pub returns : goal.returns
unfolding given_with take_turns
returns c =
    let page = c.args.page.now in
    let own = own_rows_of page in
    let kept = c.deref-one-items.result.now in
    let before = c.loop-one.invariant in
    let whole : take c.loop-one.one-index kept ≡ kept = take_all c.loop-one.one-index kept (omega (arith, c.loop-one-test.false)) in
    let is : kept ≡ keep page.supplier own.frames [] c.args.wishes.now = c.deref-one-items.ensures.value ∙ c.in_ok-kept.ensures in
    let all = whole ∙ is in
    let cells = before.cells ∙ ap (λ gs. c.args.cells.now ++ places_given gs) all in
    let others = c.deref.ensures.value ∙ before.others ∙ ap (λ gs. map (λ (g : Given). g.asked) (filter (λ (g : Given). is_none g.place) gs)) all in
    let given = before.given ∙ ap (filter (λ (g : Given). is_some g.place)) all in
    c.in_ok-take_turns.ensures.given ∙ (λ i. given i ++ take_places page.params (held_slots own c.args.node) (cells i) (in_turn page.params (others i)))
