use Rattle.std.proofs.Common.{◌≡◌, ◌∙◌, ◌+◌, ◌∷◌, ◌++◌, drop, sym, ap, arith}
use Rattle.std.proofs.lemmas.List.{drop_all, drop_more}
use Rattle.fr_base.specs.RefusedWishes.{count_wish, counted_frames, frames_beside, judge, judged}
use Rattle.fr_world.specs.Counts.{is_freed}
use Rattle.fr_world.specs.Pages.{own_rows_of}
use Rattle.fr_world.proofs.CountLaws.{counts-begin}
use Rattle.fr_world.proofs.RefusedLaws.{judge-more, judge-end}
use Rattle.fr_world.proofs.proposal.refused.judged.Goals as goal

pub loop-read-init : goal.loop-read-init
loop-read-init c =
    let own = own_rows_of c.args.page.now in
    let counted = counted_frames (frames_beside own c.args.replace c.args.reads.now) in (
      counted,
      counts-begin c.args.page.now c.args.replace c.args.reads.now c.new-counts.result c.new-counts.ensures.none c.new-counts.ensures.frames,
      ap (λ before. before ++ judge own counted c.args.reads.now) c.new-judged.ensures.items,
    )

pub loop-read-preserved : goal.loop-read-preserved
loop-read-preserved c =
    let own = own_rows_of c.args.page.now in
    let reads = c.args.reads.now in
    let i = c.loop-read.read-index in
    let now = c.loop-read.invariant in
    let next : drop i reads ≡ c.read-item.result ∷ drop (i + 1) reads = drop_more reads i c.read-item.result c.loop-read-test.true ∙ ap (λ r. r ∷ drop (i + 1) reads) (sym c.read-item.is) in
    let one = c.in_ok-one.ensures now.0 now.1 in (
      count_wish c.args.page.now.supplier now.0 (judged own now.0 c.read-item.result.wish),
      one.1,
      ap (λ before. before ++ judge own (count_wish own.supplier now.0 (judged own now.0 c.read-item.result.wish)) (drop (i + 1) reads)) c.in_ok-push.ensures.items
          ∙ judge-more own now.0 c.loop-read.judged.items c.read-item.result c.in_ok-one.one (drop (i + 1) reads) (drop i reads) next one.0
          ∙ now.2,
    )

pub returns : goal.returns
returns c =
    let now = c.loop-read.invariant in
    sym (judge-end (own_rows_of c.args.page.now) now.0 c.loop-read.judged.items (drop c.loop-read.read-index c.args.reads.now) (drop_all c.loop-read.read-index c.args.reads.now (grind (arith)))) ∙ now.2
