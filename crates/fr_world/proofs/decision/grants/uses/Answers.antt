use Rattle.std.proofs.Common.{◌∙◌, sym, ap, rules, tests}
use Rattle.std.specs.List.{list_any}
use Rattle.std.proofs.lemmas.Iterator.Search.{any_from_yields_List}
use Rattle.std.proofs.lemmas.Iterator.Consumers.{YieldsList-from_rest}
use Rattle.fr_base.specs.Step.{fills}
use Rattle.fr_world.specs.Pages.{frame_data}
use Rattle.fr_world.proofs.DecideRows.{placements-kept}
use Rattle.fr_world.proofs.decision.grants.uses.Goals as goal

pub returns : goal.returns
returns c =
    let frame = c.args.frame.now in
    any_from_yields_List (fills (c.args.slot, c.args.channel)) _ _ _ c.any.ensures.ran (YieldsList-from_rest frame.placements.keys c.iter.ensures.rest) (λ x b q k. search (rules, tests))
    ∙ ap (list_any (fills (c.args.slot, c.args.channel))) (sym (placements-kept (frame_data frame) c.iter.ensures.ordered))
