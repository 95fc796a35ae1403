use Rattle.std.proofs.Common.{◌≡◌, ◌≤◌, Ok, arith, rules, subst}
use Rattle.std.specs.Prelude.{IfOk}
use Rattle.fr_http.proofs.PlanLaws.{wanted_fits}
use Rattle.fr_http.proofs.need.need_behind.Goals as goal

pub overflow_add-result : goal.overflow_add-result
overflow_add-result c =
    let fits : c.in-Ok.plan.length ≤ 65536 = subst (λ p. IfOk p (λ w. w.length ≤ 65536)) c.in-Ok.ensures.0 (wanted_fits c.args.head.now.0) in
    search (rules, fits, c.requires)
