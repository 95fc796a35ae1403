use Rattle.std.proofs.Common.{ℕ, ◌∙◌, sym, rules, tests}
use Rattle.std.specs.List.{list_any}
use Rattle.std.specs.Map.{values_of}
use Rattle.std.proofs.lemmas.Iterator.Search.{any_from_yields_List}
use Rattle.std.proofs.lemmas.Iterator.Consumers.{YieldsList-from_rest}
use Rattle.fr_base.specs.Queries.{placements_in}
use Rattle.fr_base.specs.Step.{fills}
use Rattle.fr_base.specs.declared.channel.Channel.{Channel}
use Rattle.fr_world.specs.Pages.{frame_data, frame_of}
use Rattle.fr_world.proofs.DecideRows.{in_use-frames}
use Rattle.fr_world.proofs.decision.grants.in_use.Goals as goal

pub returns : goal.returns
returns c =
    let at : ℕ × Channel = (c.args.slot, c.args.channel) in
    let frames = c.frames.result.now.entries in
    any_from_yields_List (λ f. list_any (fills at) (placements_in (frame_of (frame_data f)))) _ _ _ c.any.ensures.ran (YieldsList-from_rest (values_of frames) c.values.ensures.rest) (λ x b q k. search (rules, tests))
    ∙ sym (in_use-frames c.args.page.now at frames c.frames.ensures.value c.values.ensures.ordered)
