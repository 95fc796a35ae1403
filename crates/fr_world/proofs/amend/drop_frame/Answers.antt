use Rattle.std.proofs.Common.{refl}
use Rattle.fr_base.specs.Step.{frame_after}
use Rattle.fr_base.specs.declared.request.FrameChange.TheVariants.{Drop}
use Rattle.fr_world.proofs.AmendLaws.{end_changes}
use Rattle.fr_world.proofs.PlacedLaws.{ended-placed, none-dropped}
use Rattle.fr_world.proofs.amend.drop_frame.Goals as goal

pub returns-clause-changed : goal.returns-clause-changed
unfolding frame_after
returns-clause-changed c words =
    end_changes words c.args.name Drop c.args.frames.now.entries c.remove-former.new.self.entries c.len-len.ensures.ordered c.remove-former.ensures.ordered c.remove-former.ensures.entries (λ there. refl)

pub returns-clause-placed : goal.returns-clause-placed
returns-clause-placed c =
    ended-placed 0 c.args.name Drop c.args.frames.now.entries c.remove-former.new.self.entries c.args.cells.now c.end_cells.new.cells c.remove-former.result c.requires.placed
    (returns-clause-changed c 0) c.remove-former.ensures.value none-dropped c.end_cells.ensures
