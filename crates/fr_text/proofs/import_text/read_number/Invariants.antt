use Rattle.std.proofs.Common.{◌≡◌, ◌<◌, ◌^◌, true, take}
use Rattle.std.specs.List.{list_all}
use Rattle.std.specs.Str.Parse.{digits_value}
use Rattle.fr_base.specs.Names.{is_digit}
use Rattle.fr_text.proofs.import_text.read_number.Given as goal

-- the bytes so far are digits, and this is their value
abbrev pub invariant-loop-digit : goal.invariant-loop-digit
invariant-loop-digit l =
    (list_all is_digit (take l.digit-index l.digits) ≡ true)
    × (l.value ≡ digits_value 10 (take l.digit-index l.digits))
    × (l.value < 2 ^ 32)
