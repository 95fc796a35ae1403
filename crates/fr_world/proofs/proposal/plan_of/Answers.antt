use Rattle.std.proofs.Common.{◌∙◌, sym}
use Rattle.std.proofs.lemmas.Result.{IfOk-weaker}
use Rattle.fr_world.specs.Pages.{own_rows_of}
use Rattle.fr_world.proofs.GivenRows.{plan-anew, plan-first, plan-kept, plan-without}
use Rattle.fr_world.proofs.proposal.plan_of.Goals as goal

pub returns-then-not-replace : goal.returns-then-not-replace
returns-then-not-replace c =
    IfOk-weaker c.plan_beside.result _ _ (λ plan e. plan-without (own_rows_of c.args.page.now) c.args.node c.args.cells.now c.args.wishes.now c.args.replace c.if-not-replace.true plan.given.items e) c.plan_beside.ensures

pub returns-then-is_whole : goal.returns-then-is_whole
returns-then-is_whole c =
    plan-first (own_rows_of c.args.page.now) c.args.node c.args.cells.now c.args.wishes.now c.args.replace c.if-not-replace.false c.in_ok-first.first.given.items c.in_ok-first.ensures (sym c.is_whole.ensures ∙ c.if-is_whole.true)

pub returns-then-is_whole-2 : goal.returns-then-is_whole-2
returns-then-is_whole-2 c =
    plan-anew (own_rows_of c.args.page.now) c.args.node c.args.cells.now c.args.wishes.now c.args.replace c.if-not-replace.false c.in_ok-first.first.given.items c.in_ok-first.ensures (sym c.is_whole.ensures ∙ c.if-is_whole.false)
    c.in_ok-anew.anew.given.items c.in_ok-anew.ensures (sym c.is_whole-2.ensures ∙ c.if-is_whole-2.true)

pub returns : goal.returns
returns c =
    plan-kept (own_rows_of c.args.page.now) c.args.node c.args.cells.now c.args.wishes.now c.args.replace c.if-not-replace.false c.in_ok-first.first.given.items c.in_ok-first.ensures (sym c.is_whole.ensures ∙ c.if-is_whole.false)
    c.in_ok-anew.anew.given.items c.in_ok-anew.ensures (sym c.is_whole-2.ensures ∙ c.if-is_whole-2.false)
