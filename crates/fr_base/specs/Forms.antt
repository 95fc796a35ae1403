-- Forms: the word of each request, and its fields, each of a kind. A field may need another one: it
-- is given only where that is given. What is asked with a request that changes nothing.
use Rattle.std.specs.Prelude.{ℕ, List, [], ◌∷◌, ◌++◌, codes, map, Option, Some, None, option_copied}
use Rattle.std.specs.Map.{lookup}
use Rattle.std.specs.Str.{bytes_eq}
use Rattle.fr_base.specs.QueryNames.{Question, name_of_field, word_of_query}
use Rattle.fr_base.specs.declared.field_name.FieldName.{FieldName}
use Rattle.fr_base.specs.declared.field_name.FieldName.TheVariants as of
use Rattle.fr_base.specs.declared.forms.Field.{Field}
use Rattle.fr_base.specs.declared.forms.Form.{Form}
use Rattle.fr_base.specs.declared.forms.Kind.{Kind}
use Rattle.fr_base.specs.declared.forms.Kind.TheVariants as kind
use Rattle.fr_base.specs.declared.import.Header.TheVariants as header
use Rattle.fr_base.specs.declared.query.Inventory.TheVariants.{Cluster, Variants, Nodes}
use Rattle.fr_base.specs.declared.query.Query.TheVariants.{Register as OfRegister, Variant as OfVariant, Difference as OfTwo}
use Rattle.fr_base.specs.declared.report.Report.{Report}
use Rattle.fr_base.specs.declared.report.Report.TheVariants.{Grants, Frames, Schedule, Gaps, Layout, Load, Rows, Room, Export}

-- a field: its name, its kind, and the name of another field that it needs, if it needs one
pub record FieldData : Type 0 where
  pub name : List ℕ
  pub kind : Kind
  pub needs : Option (List ℕ)

abbrev pub text : List ℕ → FieldData
text name = record { name = name; kind = kind.Text; needs = None }

abbrev pub text_or_null : List ℕ → FieldData
text_or_null name = record { name = name; kind = kind.TextOrNull; needs = None }

abbrev pub flag : List ℕ → FieldData
flag name = record { name = name; kind = kind.Flag; needs = None }

-- a flag that may be true only where another field is given
abbrev pub flag_with : List ℕ → List ℕ → FieldData
flag_with name other = record { name = name; kind = kind.Flag; needs = Some other }

abbrev pub number : List ℕ → FieldData
number name = record { name = name; kind = kind.Number; needs = None }

-- a form: its fields besides `do`, and what is asked with it, if it changes nothing
pub record FormData : Type 0 where
  pub fields : List FieldData
  pub asks : Option Question

-- what a form of the code says: its fields; these and what is asked with it; its word and these
abbrev pub field_in : Field → FieldData
field_in field = record { name = field.name.now; kind = field.kind; needs = option_copied field.needs }

abbrev pub fields_of : Form → List FieldData
fields_of form = map field_in form.fields.now

abbrev pub form_data : Form → FormData
form_data form = record { fields = fields_of form; asks = form.asks }

abbrev pub form_in : Form → List ℕ × FormData
form_in form = (form.word.now, form_data form)

-- ---- requests that may change rows

abbrev pub command : List ℕ → List FieldData → List ℕ × FormData
command word fields = (word, record { fields = fields; asks = None })

abbrev pub commands : List (List ℕ × FormData)
commands =
    command (codes "open_variant") (text (codes "variant") ∷ text_or_null (codes "from") ∷ flag_with (codes "flat") (codes "from") ∷ [])
    ∷ command (codes "release") (text (codes "variant") ∷ [])
    ∷ command (codes "add_supplier") (text (codes "supplier") ∷ text (codes "key") ∷ [])
    ∷ command (codes "set_key") (text (codes "supplier") ∷ text (codes "key") ∷ [])
    ∷ command (codes "add_node") (text (codes "supplier") ∷ text (codes "node") ∷ [])
    ∷ command (codes "grant") (text (codes "variant") ∷ number (codes "slot") ∷ text (codes "channel") ∷ text (codes "supplier") ∷ text (codes "node") ∷ [])
    ∷ command (codes "revoke") (text (codes "variant") ∷ number (codes "slot") ∷ text (codes "channel") ∷ text (codes "supplier") ∷ [])
    ∷ command (codes "add_frame") (text (codes "variant") ∷ text (codes "frame") ∷ text (codes "node") ∷ [])
    ∷ command (codes "drop_frame") (text (codes "variant") ∷ text (codes "frame") ∷ [])
    ∷ command (codes "place") (text (codes "variant") ∷ text (codes "frame") ∷ number (codes "slot") ∷ text (codes "channels") ∷ number (codes "base") ∷ number (codes "repetition") ∷ [])
    ∷ command (codes "unplace") (text (codes "variant") ∷ text (codes "frame") ∷ number (codes "slot") ∷ text (codes "channels") ∷ number (codes "base") ∷ number (codes "repetition") ∷ [])
    ∷ command (codes "add_signal") (text (codes "variant") ∷ text (codes "frame") ∷ text (codes "signal") ∷ number (codes "start") ∷ number (codes "length") ∷ text (codes "order") ∷ [])
    ∷ command (codes "drop_signal") (text (codes "variant") ∷ text (codes "frame") ∷ text (codes "signal") ∷ [])
    ∷ command (codes "import") (text (codes "variant") ∷ text (codes "label") ∷ text (codes "body") ∷ [])
    ∷ command (codes "replace") (text (codes "variant") ∷ text (codes "body") ∷ flag (codes "whole") ∷ [])
    ∷ command (codes "try") (text (codes "variant") ∷ text (codes "body") ∷ flag (codes "replace") ∷ flag_with (codes "whole") (codes "replace") ∷ [])
    ∷ command (codes "propose") (text (codes "variant") ∷ text (codes "body") ∷ flag (codes "replace") ∷ [])
    ∷ []

-- ---- requests that change nothing

-- a report of a variant
abbrev pub of_variant : Report FieldName FieldName → Question
of_variant report = OfVariant of.Variant report

-- what is asked with them
abbrev pub questions : List Question
questions =
    OfRegister Cluster
    ∷ OfRegister Variants
    ∷ OfRegister Nodes
    ∷ OfTwo of.Variant of.From
    ∷ of_variant Grants
    ∷ of_variant Frames
    ∷ of_variant Schedule
    ∷ of_variant Gaps
    ∷ of_variant Load
    ∷ of_variant Rows
    ∷ of_variant (Layout of.Frame)
    ∷ of_variant (Room of.Frame of.Repetition)
    ∷ of_variant (Export header.Frames of.Part)
    ∷ of_variant (Export header.Placements of.Part)
    ∷ of_variant (Export header.Signals of.Part)
    ∷ []

-- the field of a name, and of a number
abbrev pub named : FieldName → FieldData
named field = text (name_of_field field)

abbrev pub counted : FieldName → FieldData
counted field = number (name_of_field field)

-- the fields of a report besides the variant
abbrev pub report_fields : Report FieldName FieldName → List FieldData
report_fields (Layout frame) = named frame ∷ []
report_fields (Room frame repetition) = named frame ∷ counted repetition ∷ []
report_fields (Export header part) = counted part ∷ []
report_fields _ = []

-- a field for each name and number of what is asked
abbrev pub question_fields : Question → List FieldData
question_fields (OfRegister inventory) = []
question_fields (OfVariant variant report) = named variant ∷ report_fields report
question_fields (OfTwo variant from) = named variant ∷ named from ∷ []

-- the word by which it is asked, and its form
abbrev pub asking : Question → List ℕ × FormData
asking question = (word_of_query question, record { fields = question_fields question; asks = Some question })

-- ---- all requests

-- the word of each request, and its form
unfoldable pub forms : List (List ℕ × FormData)
forms = commands ++ map asking questions

-- the form of the request of this word, if there is one
unfoldable pub form_of : List ℕ → Option FormData
form_of word = lookup (bytes_eq word) forms
