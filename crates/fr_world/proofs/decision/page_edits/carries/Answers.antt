use Rattle.std.proofs.Common.{◌∙◌, sym, ap}
use Rattle.std.specs.List.{list_any}
use Rattle.fr_base.specs.Differences.{same_signal}
use Rattle.fr_world.specs.PageEdits.{carries, lent_frame}
use Rattle.fr_world.proofs.decision.page_edits.carries.Goals as goal

pub returns-in-Some : goal.returns-in-Some
returns-in-Some c =
    c.has_signal.ensures
    ∙ ap (λ signals. list_any (same_signal c.args.signal.now) signals) c.signals.ensures.value
    ∙ sym (ap (λ o. carries (lent_frame o) c.args.signal.now) c.in-Some.is)
