use Rattle.std.proofs.Common.{rules, tests}
use Rattle.std.proofs.lemmas.Iterator.Consumers.{YieldsList-from_first}
use Rattle.std.proofs.lemmas.Iterator.Search.{any_from_yields_List}
use Rattle.fr_http.specs.Conditions.{means, without_weakness}
use Rattle.fr_http.specs.Listed.{elements_left}
use Rattle.fr_http.proofs.conditions.lists.Goals as goal

pub returns : goal.returns
returns c =
    any_from_yields_List (λ e. means without_weakness c.args.tag.now e) _ _ _ c.any.ensures.ran
    (YieldsList-from_first (λ x. x.now) elements_left _ c.new.ensures) (λ x b q k. search (rules, tests))
