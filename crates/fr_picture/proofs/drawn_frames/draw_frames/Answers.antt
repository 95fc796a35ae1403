use Rattle.std.proofs.Common.{rules, ◌≡◌, ◌∙◌, ◌++◌, [], ◌∷◌, ◌+◌, List, Some, take, length, sym, ap, subst, arith, length-take-le}
use Rattle.std.proofs.lemmas.List.{take_more}
use Rattle.std.specs.List.{slice_get}
use Rattle.fr_base.specs.declared.answer.FrameRow.{FrameRow}
use Rattle.fr_picture.specs.declared.frame_table.DrawnFrame.{DrawnFrame}
use Rattle.fr_picture.proofs.FrameLaws.{drawn_more}
use Rattle.fr_picture.proofs.drawn_frames.draw_frames.Goals as goal
use Rattle.fr_picture.specs.Frames.{AreDrawn}

pub loop-place-preserved : goal.loop-place-preserved
loop-place-preserved g c =
    let i = c.loop-place.place in
    let rows = c.args.rows.now in
    let row = c.index-rows-place.result in
    let gap = c.in-Some.gap in
    let frame = c.in_ok-draw_frame.field-0 in
    let more : take (i + 1) rows ≡ take i rows ++ row ∷ [] =
    take_more rows i row c.loop-place-test.true ∙ ap (λ r. take i rows ++ r ∷ []) (sym c.index-rows-place.is) in
    let pushed : c.push.new.self.items ≡ c.loop-place.frames.items ++ frame ∷ [] = search rules in
    let there : slice_get c.args.gaps.now i ≡ Some gap = sym c.gap_at.ensures ∙ c.in-Some.is in
    let count : i ≡ length (take i rows) = sym (length-take-le i rows (omega (arith, c.loop-place-test.true))) in
    record {
      falls = λ now. c.loop-place.invariant.falls (c.draw_frame.ensures.falls now);
      drawn = λ now cl b stood sound.
          let so = c.loop-place.invariant.drawn (c.draw_frame.ensures.falls now) cl b stood sound in
          let one = c.in_ok-draw_frame.ensures.does now cl b so.0 sound in
          let all = drawn_more cl b c.args.variant.now row gap frame one.1 (take i rows) c.args.gaps.now c.loop-place.frames.items i count there so.1 in (
            one.0,
            subst (λ (rs : List FrameRow). AreDrawn cl b c.args.variant.now rs c.args.gaps.now c.push.new.self.items) (sym more)
                (subst (λ (fs : List DrawnFrame). AreDrawn cl b c.args.variant.now (take i rows ++ row ∷ []) c.args.gaps.now fs) (sym pushed) all),
          );
    }
