-- The fields of a JSON object, by what the code knows of them.
use Rattle.std.proofs.Common.{◌≡◌, List, [], ◌∷◌, ℕ, map, Bool, true, false, true≢false, ◌||◌, String, string_bytes, inl, inr, refl, ap, sym, ◌∙◌}
use Rattle.std.proofs.lemmas.Bool.{cases_Bool}
use Rattle.std.proofs.lemmas.Slice.Eq.{bytes_eq-Decides}
use Rattle.std.specs.Global.{Global}
use Rattle.std.specs.List.{list_all, list_any}
use Rattle.std.specs.Str.{IsUtf8, is_utf8, bytes_eq}
use Rattle.std.specs.Map.{keys_of}
use Rattle.std.proofs.lemmas.List.Folds.{list_all-map}
use Rattle.std.proofs.lemmas.Str.{IsUtf8-from_is_utf8, is_utf8-from_IsUtf8}
use Rattle.fr_base.specs.Forms.{field_in}
use Rattle.fr_base.specs.declared.forms.Field.{Field}
use Rattle.serde_json.specs.View.{members_view}
use Rattle.serde_json.specs.declared.value.Value.{Value}
use Rattle.fr_text.specs.Fields.{is_among, names_of}

-- what is not so is not true
false_where : (b : Bool) → (b ≡ true → ⊥) → b ≡ false
false_where true not = absurd (not refl)
false_where false not = refl

pub is_utf8-from_other : (bytes : List ℕ) → (IsUtf8 bytes → ⊥) → is_utf8 bytes ≡ false
is_utf8-from_other bytes other = false_where (is_utf8 bytes) (λ e. other (IsUtf8-from_is_utf8 bytes e))

-- a test of UTF-8, by what is known of the bytes
pub ruleset utf8_tests = (is_utf8-from_IsUtf8, is_utf8-from_other)

-- the names of the fields are the keys of the map
pub names_of-members_view : (es : List (String Global × Value)) → names_of (members_view es) ≡ map string_bytes (keys_of es)
names_of-members_view [] = refl
names_of-members_view (e ∷ es) = ap (λ names. string_bytes e.0 ∷ names) (names_of-members_view es)

-- a test of all names is one of all keys
pub list_all-names_of : (test : List ℕ → Bool) (es : List (String Global × Value)) → list_all test (names_of (members_view es)) ≡ list_all (λ key. test (string_bytes key)) (keys_of es)
list_all-names_of test es = ap (list_all test) (names_of-members_view es) ∙ list_all-map test string_bytes (keys_of es)

-- ---- the names of a form

-- texts are compared either way
swapped : (a b : List ℕ) → bytes_eq a b ≡ bytes_eq b a
swapped a b = elim (cases_Bool (bytes_eq a b)) [
  | inl h ↦ h ∙ sym ((bytes_eq-Decides b a).1 (sym ((bytes_eq-Decides a b).0 h)))
  | inr h ↦ h ∙ sym (false_where (bytes_eq b a) (λ k. true≢false (sym ((bytes_eq-Decides a b).1 (sym ((bytes_eq-Decides b a).0 k))) ∙ h)))
]

-- the one in front
pub is_front : (is : Bool) (name front : List ℕ) (others : List (List ℕ)) → is ≡ bytes_eq name front → is ≡ true → is ≡ is_among (front ∷ others) name
unfolding is_among
is_front is name front others tested holds = rw (sym (swapped name front) ∙ sym tested ∙ holds) holds

-- one of the others, if it is not that
pub among_others : (is : Bool) (name front : List ℕ) (others : List (List ℕ)) → is ≡ bytes_eq name front → is ≡ false → is_among others name ≡ is_among (front ∷ others) name
unfolding is_among
among_others is name front others tested fails = rw (sym (swapped name front) ∙ sym tested ∙ fails) refl

-- a field's name is looked up among those of the code's fields
pub is_named : (fields : List Field) (name : List ℕ) → list_any (λ field. bytes_eq field.name.now name) fields ≡ is_among (map (λ field. field.name) (map field_in fields)) name
unfolding is_among
is_named [] name = refl
is_named (field ∷ others) name = ap (λ b. bytes_eq field.name.now name || b) (is_named others name)
