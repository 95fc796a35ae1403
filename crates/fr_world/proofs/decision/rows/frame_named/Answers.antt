use Rattle.std.proofs.Common.{◌∙◌, option_map, sym, ap}
use Rattle.fr_world.specs.Pages.{frame_data, frame_of}
use Rattle.fr_world.specs.declared.page.PageFrame.{PageFrame}
use Rattle.fr_world.proofs.DecideRows.{frame_there, words-kept}
use Rattle.fr_world.proofs.MapLaws.{copied_map}
use Rattle.fr_world.proofs.decision.rows.frame_named.Goals as goal

pub returns-clause-value : goal.returns-clause-value
returns-clause-value c =
    copied_map (λ (f : PageFrame). frame_of (frame_data f)) c.get.result
    ∙ ap (option_map (λ f. frame_of (frame_data f))) c.get.ensures.value
    ∙ sym (frame_there c.args.page.now c.frames.result.now.entries c.args.frame c.frames.ensures.value)

pub returns-clause-words : goal.returns-clause-words
returns-clause-words c = words-kept c.args.page.now c.frames.result.now.entries c.args.frame c.get.result c.frames.ensures.value c.frames.ensures.kept c.get.ensures.value
