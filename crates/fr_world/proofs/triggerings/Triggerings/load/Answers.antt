use Rattle.std.proofs.Common.{◌≡◌, ◌∙◌, List, IfOk, map, ap, subst}
use Rattle.fr_base.specs.declared.answer.LoadRow.{LoadRow}
use Rattle.fr_world.specs.Loads.{grants_in_lanes}
use Rattle.fr_world.specs.Sendings.{filled}
use Rattle.fr_world.proofs.DecideFilling.{named}
use Rattle.fr_world.proofs.LoadLaws.{named-load}
use Rattle.fr_world.proofs.triggerings.Triggerings.load.Goals as goal

pub returns : goal.returns
returns c =
    subst (λ (told : List LoadRow). IfOk c.filled_load.result (λ rows. rows ≡ told))
    (named-load c.args.params.now (grants_in_lanes c.args.holders.now.entries) c.in_ok-cells.cells c.args.self.now
    (c.in_ok-cells.ensures ∙ (λ i. map named (filled (c.deref.ensures.value i) (c.deref-2.ensures.value i))) ∙ ap (map named) c.self.view_is))
    c.filled_load.ensures
