use Rattle.std.proofs.Common.{rules, ◌≡◌, true, sym}
use Rattle.fr_http.specs.Outcome.{is_decimal}
use Rattle.fr_http.proofs.PlanLaws.{all_digits, already_long, bad_length, next_digit}
use Rattle.fr_http.proofs.plan.decimal.Goals as goal

pub returns-then-not-is_decimal : goal.returns-then-not-is_decimal
returns-then-not-is_decimal c = sym (bad_length c.args.text.now (search rules))

pub loop-digit-preserved : goal.loop-digit-preserved
loop-digit-preserved c =
    let l = c.loop-digit in
    let is : is_decimal c.args.text.now ≡ true = search rules in
    record {
      value = next_digit c.args.text.now l.digit-index l.length c.from.result is c.loop-digit-test.true l.invariant.value c.from.ensures;
      fits = c.if-length-gt-MAX_BODY.false;
    }

pub returns-then-length-gt-MAX_BODY : goal.returns-then-length-gt-MAX_BODY
returns-then-length-gt-MAX_BODY c =
    let l = c.loop-digit in
    let is : is_decimal c.args.text.now ≡ true = search rules in
    sym (already_long c.args.text.now l.digit-index _ is (next_digit c.args.text.now l.digit-index l.length c.from.result is c.loop-digit-test.true l.invariant.value c.from.ensures) c.if-length-gt-MAX_BODY.true)

pub returns : goal.returns
returns c =
    let l = c.loop-digit in
    let is : is_decimal c.args.text.now ≡ true = search rules in
    all_digits c.args.text.now l.digit-index l.length is (search rules) l.invariant.value l.invariant.fits
