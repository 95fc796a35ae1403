-- Fields: whether the fields of a JSON object are just those of a form, each of its kind; and the
-- value of each.
use Rattle.std.specs.Prelude.{ℕ, ◌^◌, Bool, true, false, not, List, [], ◌∷◌, ◌&&◌, ◌||◌, codes, map, nat_lt, if◌then◌else◌, Option, Some, None, is_some, option_and_then, unwrap_or, ⊤, String}
use Rattle.std.specs.BTreeMap.{BTreeMap}
use Rattle.std.specs.Global.{Global}
use Rattle.std.specs.List.{list_all, list_any}
use Rattle.std.specs.Str.{bytes_eq, is_utf8}
use Rattle.serde_json.specs.Data.{Data, Members, no_members, member}
use Rattle.serde_json.specs.Find.{get_member, as_null, as_bool, as_str, as_number, as_u64}
use Rattle.serde_json.specs.Read.{read}
use Rattle.serde_json.specs.View.{members_view}
use Rattle.serde_json.specs.declared.value.Value.{Value}
use Rattle.fr_base.specs.Forms.{FieldData}
use Rattle.fr_base.specs.declared.forms.Kind.{Kind}
use Rattle.fr_base.specs.declared.forms.Kind.TheVariants as kind

-- The lines of a `do` are asked in order. Where one has no answer, the whole has none.
infixl 10 ◌>>=◌
abbrev pub ◌>>=◌ : {A B : Type 0} → Option A → (A → Option B) → Option B
(Some x) >>= f = f x
None >>= f = None

infixl 10 ◌>>◌
abbrev pub ◌>>◌ : {A B : Type 0} → Option A → Option B → Option B
(Some x) >> r = r
None >> r = None

-- there is an answer only where the test passes
abbrev pub provided : Bool → Option ⊤
provided test = if test then Some tt else None

-- the value that the bytes spell in JSON
unfoldable pub value_of : List ℕ → Option Data
value_of bytes = do
  provided (is_utf8 bytes)
  read bytes

-- the fields that a map of JSON values holds
abbrev pub fields_in : BTreeMap (String Global) Value → Members
fields_in fields = members_view fields.entries

-- ---- which fields are there

-- the names of the fields
abbrev pub names_of : Members → List (List ℕ)
names_of no_members = []
names_of (member name value rest) = name ∷ names_of rest

-- whether the name is one of the list
unfoldable pub is_among : List (List ℕ) → List ℕ → Bool
is_among names name = list_any (λ other. bytes_eq other name) names

-- whether each field has a name of the list
unfoldable pub only : List (List ℕ) → Members → Bool
only names fields = list_all (is_among names) (names_of fields)

-- the whole number that a value is, if it is one from 0 to 4,294,967,295
unfoldable pub as_whole : Data → Option ℕ
as_whole value = do
  spelled ← as_number value
  n ← as_u64 spelled
  provided (nat_lt n (2 ^ 32))
  Some n

-- whether a value is of this kind
abbrev pub is_of_kind : Kind → Data → Bool
is_of_kind kind.Text value = is_some (as_str value)
is_of_kind kind.TextOrNull value = is_some (as_null value) || is_some (as_str value)
is_of_kind kind.Flag value = is_some (as_bool value)
is_of_kind kind.Number value = is_some (as_whole value)

-- whether the value, or its absence, is allowed for a field of this kind
abbrev pub has_kind : Kind → Option Data → Bool
has_kind kind.Text None = false
has_kind kind.TextOrNull None = true
has_kind kind.Flag None = true
has_kind kind.Number None = false
has_kind k (Some value) = is_of_kind k value

-- whether a field of this value is given: it is there, and neither null nor false
abbrev pub is_given : Option Data → Bool
is_given None = false
is_given (Some value) = not (is_some (as_null value)) && unwrap_or (as_bool value) true

-- whether the field that another one needs is given, if that needs one
abbrev pub has_needed : Members → Option (List ℕ) → Bool
has_needed fields None = true
has_needed fields (Some other) = is_given (get_member other fields)

-- whether the field is there as its kind has it; and where it is given, so is the one that it needs
abbrev pub has_field : Members → FieldData → Bool
has_field fields field =
    let value = get_member field.name fields in has_kind field.kind value && (has_needed fields field.needs || not (is_given value))

-- the names of a form's fields, and `do`
abbrev pub names_in : List FieldData → List (List ℕ)
names_in form = codes "do" ∷ map (λ field. field.name) form

-- whether the fields are just those of the form and `do`, each of its kind, and none is given without the one that it needs
unfoldable pub has_just : List FieldData → Members → Bool
has_just form fields = only (names_in form) fields && list_all (has_field fields) form

-- ---- the value of each

-- the word of a request
unfoldable pub word_of : Members → Option (List ℕ)
word_of fields = option_and_then as_str (get_member (codes "do") fields)

-- the text of the field of this name
unfoldable pub text : Members → List ℕ → List ℕ
text fields name = unwrap_or (option_and_then as_str (get_member name fields)) []

-- the text of the field of this name; none where it is absent or null
unfoldable pub text_or_null : Members → List ℕ → Option (List ℕ)
text_or_null fields name = option_and_then as_str (get_member name fields)

-- whether the field of this name is there and true
unfoldable pub flag : Members → List ℕ → Bool
flag fields name = unwrap_or (option_and_then as_bool (get_member name fields)) false

-- the number of the field of this name
unfoldable pub number : Members → List ℕ → ℕ
number fields name = unwrap_or (option_and_then as_whole (get_member name fields)) 0
