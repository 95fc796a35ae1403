use Rattle.std.proofs.Common.{◌∙◌, sym, ap}
use Rattle.fr_base.specs.Tables.{Becomes}
use Rattle.fr_base.specs.Keys.{placement_order}
use Rattle.fr_base.specs.Step.{frame_after}
use Rattle.fr_base.specs.declared.request.FrameChange.TheVariants.{Add}
use Rattle.fr_world.specs.Maps.{set_of}
use Rattle.fr_world.specs.declared.page.PageFrame.{PageFrame}
use Rattle.fr_world.proofs.AmendLaws.{put_changes, no_placements}
use Rattle.fr_world.proofs.PlacedLaws.{ended-placed, none-added}
use Rattle.fr_world.proofs.amend.add_frame.Goals as goal

pub returns-clause-ok : goal.returns-clause-ok
unfolding frame_after
returns-clause-ok c =
    let frame : PageFrame = record { node = c.args.node; placements = c.new.result; layout = c.new-2.result } in
    put_changes c.args.words c.args.name (Add c.args.node) frame c.args.frames.now.entries c.insert.new.self.entries c.len-len.ensures.ordered c.in_ok-former.ensures.ordered c.in_ok-former.ensures.entries
    (λ there i. Becomes (record {
      node = c.args.node;
      placements = (sym no_placements ∙ ap (set_of placement_order (λ q. q)) (sym c.new.ensures.empty)) i;
      signals = ap (λ l. l.signals) (sym c.new-2.ensures) i;
    })) (ap (λ l. l.words) c.new-2.ensures) c.new.ensures.empty

pub returns-clause-placed : goal.returns-clause-placed
returns-clause-placed c =
    ended-placed c.args.words c.args.name (Add c.args.node) c.args.frames.now.entries c.insert.new.self.entries c.args.cells.now c.end_cells.new.cells c.in_ok-former.former c.requires.placed
    (returns-clause-ok c) c.in_ok-former.ensures.old (none-added c.args.node) c.end_cells.ensures
