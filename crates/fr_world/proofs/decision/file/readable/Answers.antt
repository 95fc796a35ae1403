use Rattle.std.proofs.Common.{◌≡◌, ◌∙◌, ap, is_err, rules, arith, true, false}
use Rattle.fr_base.specs.ImportRows.{up_to_refused}
use Rattle.fr_world.proofs.TrialRows.{readable-end, readable-last, readable-next}
use Rattle.fr_world.proofs.decision.file.readable.Goals as goal

pub loop-place-preserved : goal.loop-place-preserved
loop-place-preserved c =
    let rows = c.args.rows.now in
    let fine : is_err c.index-rows-place.result.row ≡ false = search rules in
    readable-next rows (up_to_refused rows) c.loop-place.place c.loop-place.invariant c.index-rows-place.result c.loop-place-test.true c.index-rows-place.is fine

pub returns-then-is_err : goal.returns-then-is_err
returns-then-is_err c =
    let rows = c.args.rows.now in
    let refused : is_err c.index-rows-place.result.row ≡ true = search rules in
    readable-last rows (up_to_refused rows) c.loop-place.place c.loop-place.invariant c.index-rows-place.result c.loop-place-test.true c.index-rows-place.is refused

pub returns : goal.returns
returns c =
    let rows = c.args.rows.now in
    let over = c.loop-place-test.false in
    readable-end rows (up_to_refused rows) c.loop-place.place c.loop-place.invariant (omega (arith, over))
