use Rattle.std.proofs.Common.{sym, ◌∙◌}
use Rattle.fr_http.proofs.PlanLaws.{needs_length, has_two, has_one, some_first, none_left}
use Rattle.fr_http.proofs.plan.length_in.Goals as goal

pub returns-in_default : goal.returns-in_default
returns-in_default c = needs_length c.args.values c.in_default.ensures.steps.0

pub returns-then-is_some : goal.returns-then-is_some
returns-then-is_some c =
    let next = some_first c.next-2.result c.next.new.self c.next-2.new.self (sym c.if-is_some.ensures) c.next-2.ensures.steps in
    has_two c.args.values c.next.new.self c.next-2.new.self c.in-Some.value.now next.0 c.in-Some.ensures.steps next.1

pub returns : goal.returns
returns c =
    c.decimal.ensures ∙ has_one c.args.values c.next.new.self c.in-Some.value.now c.in-Some.ensures.steps
    (none_left c.next-2.result c.next.new.self c.next-2.new.self (sym c.is_some.ensures ∙ c.if-is_some.false) c.next-2.ensures.steps)
