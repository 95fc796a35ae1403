use Rattle.std.proofs.Common.{◌≡◌, ◌∙◌, Option, option_map, sym, ap, subst}
use Rattle.fr_base.specs.RefusedWishes.{count_wish, judged}
use Rattle.fr_world.specs.Counts.{ShowCounts, counted_of, is_freed}
use Rattle.fr_world.specs.Pages.{own_rows_of}
use Rattle.fr_world.proofs.CountLaws.{counts-more}
use Rattle.fr_world.proofs.RefusedLaws.{frames-with, judged-passed, judged-refused, judged-unread}
use Rattle.fr_world.proofs.proposal.refused.Counts.judge.Goals as goal

pub returns-in_default : goal.returns-in_default
returns-in_default c counted shows =
    let own = own_rows_of c.args.page.now in
    let told = judged-unread own counted c.args.read.now.wish c.in_default.not-Ok in (
      (λ i. record { line = c.args.read.now.line; wish = sym told.0 i }),
      subst (ShowCounts c.args.page.now (is_freed c.args.replace c.args.reads.now) c.args.self.now) (sym told.1) shows,
    )

pub returns-in_ok-insert-in-Ok-admit : goal.returns-in_ok-insert-in-Ok-admit
returns-in_ok-insert-in-Ok-admit c counted shows =
    let own = own_rows_of c.args.page.now in
    let wish = c.in-Ok.wish in
    let there = option_map counted_of c.of-there.result in
    let at = sym (c.of-there.ensures counted shows) in
    let counts = c.in-Ok-admit.ensures counted shows.frames at in
    let passed = judged-passed own counted c.args.read.now.wish wish c.in-Ok.is counts.0 in (
      (λ i. record { line = c.args.read.now.line; wish = (c.in-Ok.is ∙ sym passed) i }),
      subst (λ w. ShowCounts c.args.page.now (is_freed c.args.replace c.args.reads.now) (record { frames = c.in-Ok-admit.counting.frames; wished = c.insert.new.self }) (count_wish c.args.page.now.supplier counted w)) (sym passed)
          (counts-more c.args.page.now (is_freed c.args.replace c.args.reads.now) c.args.self.now (record { frames = c.in-Ok-admit.counting.frames; wished = c.insert.new.self }) counted wish there c.in-Ok-admit.counting.counted
          shows at counts.1 (counts.2 ∙ frames-with counted_of c.of-there.result c.args.self.now.frames) c.in_ok-insert-in-Ok-admit.ensures.updates.0),
    )

pub returns-in-Err : goal.returns-in-Err
returns-in-Err c counted shows =
    let own = own_rows_of c.args.page.now in
    let refused = c.in-Err.ensures counted shows.frames (sym (c.of-there.ensures counted shows)) in
    let told = judged-refused own counted c.args.read.now.wish c.in-Ok.wish c.in-Err.refusal c.in-Ok.is refused in (
      (λ i. record { line = c.args.read.now.line; wish = sym told i }),
      subst (λ w. ShowCounts c.args.page.now (is_freed c.args.replace c.args.reads.now) c.args.self.now (count_wish c.args.page.now.supplier counted w)) (sym told) shows,
    )
