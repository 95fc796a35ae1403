use Rattle.std.proofs.Common.{ap, ◌∙◌}
use Rattle.fr_text.proofs.WordsLemmas.{right-more, right-one}
use Rattle.fr_text.proofs.words.+push_right.Goals as goal
use Rattle.fr_text.proofs.words.+push_right.Goals.{then-number-ge10+in_ok-push_right, else-number-ge10+in_ok-push_spaces}

pub returns-clause-ok : goal.returns-clause-ok
returns-clause-ok t c = elim c.if-number-ge10.branch [
  | then-number-ge10+in_ok-push_right w ↦ right-more _ c.args.places c.args.out.now.items _ _ w.if-number-ge10.true c.ranges.number.fits
      (ap (λ out. out.items) w.out-is ∙ rw c.saturating_sub-left.ensures at w.in_ok-push_right.ensures.ok) c.in_ok-push.ensures.items
  | else-number-ge10+in_ok-push_spaces w ↦ right-one _ c.args.places c.args.out.now.items _ _ w.if-number-ge10.false
      (ap (λ out. out.items) w.out-is ∙ rw c.saturating_sub-left.ensures at w.in_ok-push_spaces.ensures.ok) c.in_ok-push.ensures.items
]
