use Rattle.std.proofs.Common.{◌∙◌, sym}
use Rattle.fr_world.proofs.DecideRows.{frames_len}
use Rattle.fr_world.proofs.proposal.refused.Counts.new.Goals as goal

pub returns-clause-frames : goal.returns-clause-frames
returns-clause-frames c = c.len.ensures.len ∙ sym (frames_len c.args.page.now c.frames.result.now.entries c.frames.ensures.value c.len.ensures.ordered)
