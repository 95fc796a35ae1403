use Rattle.std.proofs.Common.{rules}
use Rattle.fr_http.proofs.RouteLaws.{inserted}
use Rattle.fr_http.proofs.engine.add.Goals as goal

pub returns : goal.returns
returns c = inserted c.args.pattern.now c.args.resource c.args.router.now c.insert.new.self c.insert.result (search rules) c.insert.ensures
