-- The number that `get_one` reads is the one at its place.
use Rattle.std.proofs.Common.{Bor, ◌≡◌, ◌<◌, ◌^◌, ◌∙◌, ap, sym, refl, ℕ, List, Option, Some, None, Result, Ok, Err, arith, codes, false, true, inl, inr, ◌⊎◌}
use Rattle.std.proofs.lemmas.Slice.Eq.{bytes_eq-Decides}
use Rattle.std.specs.Str.{bytes_eq}
use Rattle.std.specs.Prelude.{unwrap_or}
use Rattle.std.specs.Str.Parse.{IsNumeral, ParsesUnsigned, digits_value, without_leading_plus}
use Rattle.clap.proofs.WalkLemmas.{one_text-rows}
use Rattle.clap.specs.Matches.{ReadsOne, one_text}
use Rattle.clap.specs.Walk.{Row, Text, one_of, rows_of}
use Rattle.clap.specs.declared.parser.matches.Found.{Found}
use Rattle.fr_cli.specs.Reports.{asked_with}
use Rattle.fr_cli.specs.Words.{HasNumber, IsJobIn, IsJobOf, IsNumberIn, word_of_delivery}
use Rattle.fr_base.specs.declared.delivery.Purpose.{Purpose}
use Rattle.fr_base.specs.declared.delivery.Purpose.TheVariants.{Import as ByLabel, Replacement, Trial, Proposal}
use Rattle.fr_cli.specs.declared.words.Job.{Job}
use Rattle.fr_cli.specs.declared.words.Job.TheVariants.{Run, Create, Migrate, Serve, Ask, Report as ReportOn, Picture, Deliver, Check, Explain}

-- the number of a text in decimal digits, if it fits into 32 bits
abbrev pub IsReadOf : Option ℕ → Option Text → Type 0
IsReadOf (Some number) said = (text : Text) × (said ≡ Some text) × IsNumeral 10 (without_leading_plus text)
    × (number ≡ digits_value 10 (without_leading_plus text))
IsReadOf None said = (text : Text) → said ≡ Some text → IsNumeral 10 (without_leading_plus text)
    → digits_value 10 (without_leading_plus text) < 2 ^ 32 → ⊥

-- the number that `get_one` reads, by the rows, where what `from_str` gives is a number of 32 bits
pub one_read : {E : Type 0} (G : Text → Result ℕ E → Type 0) → ((t : Text) (r : Result ℕ E) → G t r → ParsesUnsigned 32 10 t r)
    → (found : Found) (name : Text) (read : Option ℕ) → (one_text found name ≡ None → read ≡ None)
    → ((t : Text) → one_text found name ≡ Some t → ReadsOne G t read) → IsReadOf read (one_of name (rows_of found))
one_read {E} G parses found name read none value = go _ _ (λ is. none (same ∙ is)) (λ t is. value t (same ∙ is))
  where
    same : one_text found name ≡ one_of name (rows_of found)
    same = one_text-rows found name

    go : (said : Option Text) (read : Option ℕ) → (said ≡ None → read ≡ None) → ((t : Text) → said ≡ Some t → ReadsOne G t read)
        → IsReadOf read said
    go None (Some number) none value = let no : Some number ≡ None = none refl in cc
    go None None none value = λ text is. cc
    go (Some t) (Some number) none value = let parsed = parses t (Ok number) (value t refl) in (t, refl, parsed.0.0, parsed.1)
    go (Some t) None none value = λ text is numeral small.
        let got = value text is in parses text (Err got.0) got.1 (numeral, small)

-- a number at a place is the one that is read there, if it is not too great
pub number_is : (name : Text) (least most : ℕ) (rows : List Row) (read : Option ℕ) → most < 2 ^ 32 → IsReadOf read (one_of name rows) → (number : ℕ)
    → HasNumber name least most rows number → read ≡ Some number
number_is name least most rows (Some n) fits is number has =
    let same : is.0 ≡ has.0 = ap (λ (o : Option Text). unwrap_or o is.0) (sym is.1 ∙ has.1) in
    ap (λ (k : ℕ). Some k) (is.3 ∙ (ap (λ (t : Text). digits_value 10 (without_leading_plus t)) same ∙ sym has.3))
number_is name least most rows None fits is number has = absurd (is has.0 has.1 has.2 (omega (arith, has.3, has.5)))

-- none is given, and none stands there
pub no_number : (name : Text) (least most : ℕ) (rows : List Row) (number : Option ℕ) → number ≡ None → ((k : ℕ) → HasNumber name least most rows k → ⊥)
    → IsNumberIn number name least most rows
no_number name least most rows (Some k) none lacks = cc
no_number name least most rows None none lacks = lacks

-- two texts that differ are not one
apart : {X : Type 0} (a b : Text) → bytes_eq a b ≡ false → a ≡ b → X
apart a b differ same = let no : true ≡ false = sym ((bytes_eq-Decides a b).1 same) ∙ differ in cc

-- a server's words have four numbers
pub numbers_of : (rows : List Row) (job : Job) → IsJobOf job (codes "serve") rows
    → ((port : ℕ) × HasNumber (codes "PORT") 1 65535 rows port) × ((count : ℕ) × HasNumber (codes "count") 1 1000000 rows count)
    × ((seconds : ℕ) × HasNumber (codes "seconds") 1 3600 rows seconds) × ((memory : ℕ) × HasNumber (codes "memory") 1 1000000 rows memory)
unfolding asked_with
numbers_of rows (Serve db port count seconds memory) is = ((port, is.2), (count, is.3), (seconds, is.4), (memory, is.5))
numbers_of rows (Run numbered) is = apart _ _ refl is.0
numbers_of rows (Create db config) is = apart _ _ refl is.0
numbers_of rows (Migrate db) is = apart _ _ refl is.0
numbers_of rows (Ask db numbered) is = apart _ _ refl is.0
numbers_of rows (ReportOn db query) is = absurd is.1
numbers_of rows (Picture db variant since supplier) is = apart _ _ refl is.0
numbers_of rows (Deliver db delivery) is = delivered delivery.how is.0
  where
    delivered : {X : Type 0} (how : Purpose (Bor (List ℕ))) → codes "serve" ≡ word_of_delivery how → X
    delivered (ByLabel label) same = apart _ _ refl same
    delivered (Replacement whole) same = apart _ _ refl same
    delivered (Trial manner) same = apart _ _ refl same
    delivered (Proposal replace) same = apart _ _ refl same
numbers_of rows (Check file) is = apart _ _ refl is.0
numbers_of rows (Explain word) is = apart _ _ refl is.0

-- without one of them no server is asked for
pub no_server : (rows : List Row) (job : Option Job) → job ≡ None
    → ((number : ℕ) → HasNumber (codes "PORT") 1 65535 rows number → ⊥) ⊎ (((number : ℕ) → HasNumber (codes "count") 1 1000000 rows number → ⊥)
    ⊎ (((number : ℕ) → HasNumber (codes "seconds") 1 3600 rows number → ⊥) ⊎ ((number : ℕ) → HasNumber (codes "memory") 1 1000000 rows number → ⊥)))
    → IsJobIn job (codes "serve") rows
no_server rows (Some job) none lacks = cc
no_server rows None none (inl lacks) = λ job is. let has = (numbers_of rows job is).0 in lacks has.0 has.1
no_server rows None none (inr (inl lacks)) = λ job is. let has = (numbers_of rows job is).1 in lacks has.0 has.1
no_server rows None none (inr (inr (inl lacks))) = λ job is. let has = (numbers_of rows job is).2 in lacks has.0 has.1
no_server rows None none (inr (inr (inr lacks))) = λ job is. let has = (numbers_of rows job is).3 in lacks has.0 has.1
