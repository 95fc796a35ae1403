-- Where a word stands whose argument is a number within bounds, it is such a number.
use Rattle.std.proofs.Common.{◌≡◌, ℕ, ◌≤◌, Bool, true, false, cond, drop, List, [], ◌∷◌, Option, Some, None, refl, sym, ap, ◌∙◌, subst, arith}
use Rattle.std.specs.Prelude.{◌==◌, option_and_then, pos, unwrap_or}
use Rattle.std.specs.Str.Parse.{IsNumeral, digits_value, starts_with_minus, without_leading_plus}
use Rattle.std.proofs.lemmas.Bool.{ne_eqb}
use Rattle.std.proofs.lemmas.Int.{ints}
use Rattle.std.proofs.lemmas.Str.Parse.{digit_from_value}
use Rattle.clap.proofs.ValueTestLemmas.{accepts-Accepts}
use Rattle.clap.specs.Facts.{parser_of_value}
use Rattle.clap.specs.Lexer.{without_minus}
use Rattle.clap.specs.ValueTests.{accepts}
use Rattle.clap.specs.Values.{IsSignedIn, read_as, reading_of}
use Rattle.clap.specs.Walk.{Row, Rule, Text, arg_by_id, one_of}
use Rattle.clap.specs.declared.builder.value_parser.ValueParser.{ValueParser}
use Rattle.clap.specs.declared.builder.value_parser.ValueParser.TheVariants.{Signed}
use Rattle.fr_cli.specs.Words.{HasNumber}
use Rattle.fr_cli.proofs.TakenThere.{Stands}

without_minus-cond : (t : Text) → without_minus t ≡ cond (starts_with_minus t) (drop 1 t) t
without_minus-cond [] = refl
without_minus-cond (x ∷ xs) = go (x == 45)
  where
    go : (b : Bool) → unwrap_or (cond b (Some xs) None) (x ∷ xs) ≡ cond b xs (x ∷ xs)
    go true = refl
    go false = refl

no_plus : (ds : Text) → IsNumeral 10 ds → without_leading_plus ds ≡ ds
no_plus [] h = refl
no_plus (d ∷ ds) h =
    let plus : (d == 43) ≡ false = ne_eqb _ _ (λ e. omega (arith, digit_from_value d h.1.0)) in
    ap (λ (b : Bool). drop (cond b 1 0) (d ∷ ds)) plus

-- the text is a number within these bounds
abbrev IsWithin : ℕ → ℕ → Text → Type 0
IsWithin low high t = IsNumeral 10 (without_leading_plus t) × (low ≤ digits_value 10 (without_leading_plus t)) × (digits_value 10 (without_leading_plus t) ≤ high)

within_by : (low high : ℕ) (t : Text) → IsSignedIn (pos low) (pos high) t → IsWithin low high (without_minus t)
within_by low high t passed = subst (IsWithin low high) (sym (without_minus-cond t)) (go (starts_with_minus t) refl)
  where
    go : (b : Bool) → starts_with_minus t ≡ b → IsWithin low high (cond b (drop 1 t) t)
    go true minus =
        let least = rw minus at passed.2 in
        let numeral : IsNumeral 10 (drop 1 t) = rw minus at passed.0 in
        let same = no_plus (drop 1 t) numeral in
        (rw same numeral, rw same (omega (arith, ints)), rw same (omega (arith, ints)))
    go false minus =
        let least = rw minus at passed.2 in
        let most = rw minus at passed.3 in
        let numeral = rw minus at passed.0 in
        (numeral, omega (arith, ints), omega (arith, ints))

-- the list has an argument of this id that is such a number
abbrev pub IsNumber : List Rule → Text → ℕ → ℕ → Type 0
IsNumber rules id low high = option_and_then (λ a. a.parser) (arg_by_id rules id) ≡ Some (Signed (pos low) (pos high))

pub number_stands : (rules : List Rule) (id : Text) (rows : List Row) (low high : ℕ) → Stands rules id rows → IsNumber rules id low high
    → (n : ℕ) × HasNumber id low high rows n
number_stands rules id rows low high at parsed =
    let own : at.rule.parser ≡ Some (Signed (pos low) (pos high)) = ap (option_and_then (λ a. a.parser)) (sym at.is) ∙ parsed in
    let passes : IsSignedIn (pos low) (pos high) at.text =
    accepts-Accepts at.rule.ignore_case (Signed (pos low) (pos high)) at.text
    (subst (λ (p : Option ValueParser). accepts at.rule.ignore_case (parser_of_value p) at.text ≡ true) own at.passes) in
    let read : one_of id rows ≡ Some (without_minus at.text) =
    subst (λ (p : Option ValueParser). one_of id rows ≡ Some (read_as (reading_of (parser_of_value p)) at.text)) own at.read in
    let within = within_by low high at.text passes in
    (digits_value 10 (without_leading_plus (without_minus at.text)), (without_minus at.text, read, within.0, refl, within.1, within.2))
