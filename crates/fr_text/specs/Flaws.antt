-- Flaws: what is wrong with the fields of a request.
use Rattle.std.specs.Prelude.{ℕ, not, List, ◌++◌, if◌then◌else◌, Option, Some, None, option_map}
use Rattle.std.specs.List.{filter_map}
use Rattle.serde_json.specs.Data.{Data, Members}
use Rattle.serde_json.specs.Find.{get_member, as_object}
use Rattle.serde_json.specs.View.{view}
use Rattle.fr_base.specs.Forms.{FieldData, field_in, form_of}
use Rattle.fr_text.specs.Fields.{◌>>=◌, has_kind, is_among, is_given, names_in, names_of, word_of}
use Rattle.fr_text.specs.declared.field_faults.FieldFault.{FieldFault}
use Rattle.fr_text.specs.declared.field_faults.FieldFault.TheVariants as fault

-- What is wrong with a field: the form has none of this name; or it is missing; or it has this
-- value, of another kind; or it is given, and the field of this name, which it needs, is not: that
-- is missing, or has this value.
pub data Flaw : Type 0 where
  Unknown : List ℕ → Flaw
  Missing : FieldData → Flaw
  OtherKind : FieldData → Data → Flaw
  Alone : FieldData → List ℕ → Option Data → Flaw

-- the flaw that a fault of the code tells
abbrev pub flaw_of : FieldFault → Flaw
flaw_of (fault.Unknown name) = Unknown name.now
flaw_of (fault.Missing field) = Missing (field_in field)
flaw_of (fault.OtherKind field value) = OtherKind (field_in field) (view value.now)
flaw_of (fault.Alone field other value) = Alone (field_in field) other.now (option_map (λ value. view value.now) value)

-- that of a field which is not as its kind has it, with this value
abbrev pub unlike : FieldData → Option Data → Flaw
unlike field None = Missing field
unlike field (Some value) = OtherKind field value

-- that of a field which is given, and may need another one
abbrev pub lonely : Members → FieldData → Option (List ℕ) → Option Flaw
lonely fields field None = None
lonely fields field (Some other) = let value = get_member other fields in if is_given value then None else Some (Alone field other value)

-- that of a field of the form, if it has one
unfoldable pub flaw_in : Members → FieldData → Option Flaw
flaw_in fields field =
    let value = get_member field.name fields in
    if not (has_kind field.kind value) then Some (unlike field value) else if is_given value then lonely fields field field.needs else None

-- that of a field of this name, if it is none of these
abbrev pub stranger : List (List ℕ) → List ℕ → Option Flaw
stranger names name = if is_among names name then None else Some (Unknown name)

-- those of the fields that the form does not have, and then those of its own fields, in its order
abbrev pub flaws_in : List FieldData → Members → List Flaw
flaws_in form fields = filter_map (stranger (names_in form)) (names_of fields) ++ filter_map (flaw_in fields) form

-- those of the fields of a request's object, if it has a word
abbrev pub flaws_from : Data → Option (List Flaw)
flaws_from value = do
  fields ← as_object value
  word ← word_of fields
  form ← form_of word
  Some (flaws_in form.fields fields)
