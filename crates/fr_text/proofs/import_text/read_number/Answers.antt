use Rattle.std.proofs.Common.{◌≡◌, ◌≤◌, length, false, ◌∙◌, ◌+◌, true, Ok, ap, sym, rules, arith}
use Rattle.std.proofs.lemmas.List.{take_all}
use Rattle.std.specs.List.{list_all}
use Rattle.std.specs.Str.Parse.{digits_value}
use Rattle.std.specs.Prelude.{get_or, ◌==◌}
use Rattle.std.proofs.lemmas.Bool.Decides.{nat_tests}
use Rattle.fr_base.specs.Names.{is_digit}
use Rattle.fr_text.proofs.ImportTextLemmas.{number-size, number-other, number-large, number-read, value-more, digits-more}
use Rattle.fr_text.proofs.import_text.read_number.Goals as goal

pub returns-then-not-contains : goal.returns-then-not-contains
returns-then-not-contains c = number-size c.args.digits.now (grind (arith, nat_tests))

pub returns-then-not-is_ascii_digit : goal.returns-then-not-is_ascii_digit
returns-then-not-is_ascii_digit c = number-other c.args.digits.now c.loop-digit.digit-index c.loop-digit-test.true (search rules)

pub returns-in_err-checked_mul : goal.returns-in_err-checked_mul
returns-in_err-checked_mul c =
    let text = c.args.digits.now in
    let digit : is_digit (get_or text c.loop-digit.digit-index 0) ≡ true = search rules in
    let more = value-more text c.loop-digit.digit-index c.loop-digit-test.true digit in
    rw c.from_residual.ensures (number-large text (c.loop-digit.digit-index + 1) (omega (arith, more, c.loop-digit.invariant.1, c.in_err-checked_mul.ensures)))

pub returns-in_err-value : goal.returns-in_err-value
returns-in_err-value c =
    let text = c.args.digits.now in
    let digit : is_digit (get_or text c.loop-digit.digit-index 0) ≡ true = search rules in
    let more = value-more text c.loop-digit.digit-index c.loop-digit-test.true digit in
    rw c.from_residual-in_err-value.ensures (number-large text (c.loop-digit.digit-index + 1) (omega (arith, more, c.loop-digit.invariant.1, c.in_err-value.ensures)))

pub loop-digit-preserved : goal.loop-digit-preserved
loop-digit-preserved c =
    let text = c.args.digits.now in
    let digit : is_digit (get_or text c.loop-digit.digit-index 0) ≡ true = search rules in
    let more = value-more text c.loop-digit.digit-index c.loop-digit-test.true digit in
    (digits-more text c.loop-digit.digit-index c.loop-digit-test.true c.loop-digit.invariant.0 digit, omega (arith, more, c.loop-digit.invariant.1, c.in_ok-value.ensures), omega (arith, c.in_ok-value.ensures))

pub returns : goal.returns
returns c =
    let text = c.args.digits.now in
    let whole = take_all c.loop-digit.digit-index text (omega arith) in
    let value : c.loop-digit.value ≡ digits_value 10 text = c.loop-digit.invariant.1 ∙ ap (digits_value 10) whole in
    let digits : list_all is_digit text ≡ true = sym (ap (list_all is_digit) whole) ∙ c.loop-digit.invariant.0 in
    let low : (length text == 0) ≡ false = grind (arith, nat_tests) in
    let high : length text ≤ 10 = grind (arith, nat_tests) in
    number-read text low high digits (omega (arith, value, c.loop-digit.invariant.2)) ∙ ap (λ n. Ok n) (sym value)
