-- The flag that `get_one` reads is the one at its place.
use Rattle.std.proofs.Common.{◌≡◌, ◌∙◌, ap, codes, refl, sym, Bool, Option, Some, None, false, true}
use Rattle.std.proofs.lemmas.Slice.Eq.{bytes_eq-Decides}
use Rattle.std.specs.Option.{option_map_or}
use Rattle.std.specs.Prelude.{◌≢◌, unwrap_or}
use Rattle.std.specs.Str.{bytes_eq}
use Rattle.std.specs.Str.Parse.{ParsesBool}
use Rattle.clap.proofs.WalkLemmas.{one_text-rows}
use Rattle.clap.specs.Matches.{ReadsOne, one_text}
use Rattle.clap.specs.Walk.{Text, one_of, rows_of}
use Rattle.clap.specs.declared.parser.matches.Found.{Found}
use Rattle.fr_cli.specs.Words.{is_given}

unequal : (a b : Text) → a ≢ b → false ≡ bytes_eq a b
unequal a b differ = go (bytes_eq a b) refl
  where
    go : (same : Bool) → bytes_eq a b ≡ same → false ≡ same
    go true is = absurd (differ ((bytes_eq-Decides a b).0 is))
    go false is = refl

-- the same of the text at a place
flag_by : (E : Type 0) (said : Option Text) (read : Option Bool) → (said ≡ None → read ≡ None)
    → ((t : Text) → said ≡ Some t → ReadsOne {E = E} ParsesBool t read) → unwrap_or read false ≡ option_map_or (λ text. bytes_eq text (codes "true")) said false
flag_by E None (Some b) none value = let no : Some b ≡ None = none refl in cc
flag_by E None None none value = refl
flag_by E (Some t) (Some true) none value = sym ((bytes_eq-Decides t (codes "true")).1 (value t refl))
flag_by E (Some t) (Some false) none value = ap (λ text. bytes_eq text (codes "true")) (sym (value t refl))
flag_by E (Some t) None none value = let (e, refused) = value t refl in unequal t (codes "true") refused.0

pub flag_read : (E : Type 0) (found : Found) (name : Text) (read : Option Bool) → (one_text found name ≡ None → read ≡ None)
    → ((t : Text) → one_text found name ≡ Some t → ReadsOne {E = E} ParsesBool t read) → unwrap_or read false ≡ is_given name (rows_of found)
flag_read E found name read none value = flag_by E _ read (λ is. none (same ∙ is)) (λ t is. value t (same ∙ is))
  where
    same : one_text found name ≡ one_of name (rows_of found)
    same = one_text-rows found name
