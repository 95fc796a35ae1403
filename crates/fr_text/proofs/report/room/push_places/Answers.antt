use Rattle.std.proofs.lemmas.Result.{err_from_is_err_and}
use Rattle.fr_text.proofs.RoomLemmas.{starts, goes_on, ends}
use Rattle.fr_text.proofs.WordsLemmas.{Extends-append, Extends-trans}
use Rattle.fr_text.proofs.report.room.push_places.Goals as goal

pub loop-place-init : goal.loop-place-init
loop-place-init c = record {
  text = starts c.args.mark.now c.args.first.now c.args.rest.now c.args.out.now.items _ c.in_ok-push_first.ensures.ok;
  extends = rw c.in_ok-push_first.ensures.ok (Extends-append _ _);
}

pub returns-in_err-push_next-clause-err : goal.returns-in_err-push_next-clause-err
returns-in_err-push_next-clause-err c =
    let p = err_from_is_err_and c.from_residual-in_err-push_next.result c.from_residual-in_err-push_next.ensures.1 in
    rw p.1 (Extends-trans _ _ _ c.loop-place.invariant.extends c.in_err-push_next.ensures.err)

pub loop-place-preserved : goal.loop-place-preserved
loop-place-preserved c = record {
  text = goes_on c.args.mark.now c.loop-place.before.now c.place-item.result c.args.rest.now c.loop-place.place-index
      c.loop-place.out.items _ _ c.loop-place-test.true c.place-item.is c.loop-place.invariant.text c.in_ok-push_next.ensures.ok;
  extends = Extends-trans _ _ _ c.loop-place.invariant.extends (rw c.in_ok-push_next.ensures.ok (Extends-append _ _));
}

pub returns-clause-ok : goal.returns-clause-ok
returns-clause-ok c = ends c.args.mark.now c.loop-place.before.now c.args.rest.now c.loop-place.place-index _ _ c.loop-place-test.false c.loop-place.invariant.text
