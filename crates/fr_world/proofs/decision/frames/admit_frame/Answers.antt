use Rattle.std.proofs.Common.{arith}
use Rattle.std.proofs.lemmas.Grind.{common_steps}
use Rattle.std.proofs.lemmas.Bool.Decides.{nat_tests}
use Rattle.fr_world.proofs.DecideRows.{decide_open, frames_len}
use Rattle.fr_world.proofs.decision.frames.admit_frame.Goals as goal

pub returns-then-len-ge-MAX_FRAMES : goal.returns-then-len-ge-MAX_FRAMES
unfolding decide_open
returns-then-len-ge-MAX_FRAMES c =
    let count = frames_len c.args.page.now c.frames.result.now.entries c.frames.ensures.value c.len.ensures.ordered in
    grind (arith, nat_tests, common_steps)

pub returns : goal.returns
unfolding decide_open
returns c =
    let count = frames_len c.args.page.now c.frames.result.now.entries c.frames.ensures.value c.len.ensures.ordered in
    grind (arith, nat_tests, common_steps)
