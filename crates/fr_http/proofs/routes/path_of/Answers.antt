use Rattle.std.proofs.Common.{◌==◌, sym, ◌∙◌}
use Rattle.fr_http.proofs.RouteLaws.{before_place, before_none}
use Rattle.fr_http.proofs.routes.path_of.Goals as goal

pub returns-in-Some : goal.returns-in-Some
returns-in-Some c = before_place (λ b. b == 63) c.args.target.now c.in-Some.at (sym c.index_of.ensures ∙ c.in-Some.is)

pub returns-in-None : goal.returns-in-None
returns-in-None c = before_none (λ b. b == 63) c.args.target.now (sym c.index_of.ensures ∙ c.in-None.is)
