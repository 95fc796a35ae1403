use Rattle.std.proofs.lemmas.Result.{err_from_is_err_and}
use Rattle.fr_text.proofs.WordsLemmas.{Extends-trans, Extends-later}
use Rattle.fr_text.proofs.report.frames.push_placements.Goals as goal

pub returns-in_err-push_placement-clause-err : goal.returns-in_err-push_placement-clause-err
returns-in_err-push_placement-clause-err c =
    let p = err_from_is_err_and c.from_residual-in_err-push_placement.result c.from_residual-in_err-push_placement.ensures.1 in
    rw p.1 (Extends-trans _ _ _ c.loop-placement.invariant.extends (Extends-later _ _ _ (rw c.in_ok-push.ensures.ok at c.in_err-push_placement.ensures.err)))
