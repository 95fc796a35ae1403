-- The length is the number of the digits so far.
use Rattle.std.proofs.Common.{◌≡◌, ◌≤◌, take}
use Rattle.std.specs.Str.Parse.{digits_value}
use Rattle.fr_http.proofs.plan.decimal.Given as goal

abbrev pub invariant-loop-digit : goal.invariant-loop-digit
invariant-loop-digit l = record {
  value : l.length ≡ digits_value 10 (take l.digit-index l.text);
  fits : l.length ≤ 65536;
}
