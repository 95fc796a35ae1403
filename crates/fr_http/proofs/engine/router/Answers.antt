use Rattle.std.proofs.Common.{arith}
use Rattle.fr_http.proofs.RouteLaws.{one_more, all_routes}
use Rattle.fr_http.proofs.engine.router.Goals as goal

pub loop-pattern-init : goal.loop-pattern-init
loop-pattern-init c = c.new-router.ensures

pub loop-pattern-preserved : goal.loop-pattern-preserved
loop-pattern-preserved c =
    one_more c.routes-pattern-items.result c.loop-pattern.pattern-index _ c.loop-pattern.router c.add.new.router (omega (arith, c.loop-pattern-test.true, c.routes-pattern-items.type_inv))
    c.loop-pattern.invariant c.in_ok-add.ensures

pub returns : goal.returns
returns c =
    all_routes c.routes-pattern-items.result c.loop-pattern.pattern-index c.loop-pattern.router (omega (arith, c.loop-pattern-test.false, c.routes-pattern-items.type_inv))
    c.routes-pattern-items.ensures c.loop-pattern.invariant
