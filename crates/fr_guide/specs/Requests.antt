-- Fine request: a text that is a request, in which each name is a name and each key is a key.
use Rattle.std.specs.Prelude.{ℕ, Bool, false, List, [], ◌∷◌, Option, Some, None}
use Rattle.std.specs.List.{list_all}
use Rattle.fr_base.specs.Names.{is_key, is_name}
use Rattle.fr_base.specs.declared.beginning.Beginning.{Beginning}
use Rattle.fr_base.specs.declared.beginning.Beginning.TheVariants.{Empty, From, Flat}
use Rattle.fr_base.specs.declared.query.Query.{Query}
use Rattle.fr_base.specs.declared.query.Query.TheVariants.{Register as OfRegister, Variant as OfVariant, Difference as OfTwo}
use Rattle.fr_base.specs.declared.report.Report.{Report}
use Rattle.fr_base.specs.declared.report.Report.TheVariants.{Layout, Room}
use Rattle.fr_base.specs.declared.request.Request.{Request}
use Rattle.fr_base.specs.declared.request.Request.TheVariants as request
use Rattle.fr_base.specs.declared.delivery.Purpose.TheVariants as purpose
use Rattle.fr_text.specs.RequestText.{request_of}
use Rattle.fr_guide.specs.declared.form.Form.{Form}
use Rattle.fr_guide.specs.declared.form.Form.TheVariants as form

-- whether a text has this form
abbrev pub has_form : Form → List ℕ → Bool
has_form form.Name text = is_name text
has_form form.Key text = is_key text

-- a text that must be a name
abbrev pub name : List ℕ → Form × List ℕ
name text = (form.Name, text)

-- the name of the variant whose rows a new one begins with, if there is one
abbrev pub origin_in : Beginning (List ℕ) → List (Form × List ℕ)
origin_in Empty = []
origin_in (From parent) = name parent ∷ []
origin_in (Flat from) = name from ∷ []

-- the name of a report's frame, if the report is of one
abbrev pub frame_in : Report (List ℕ) ℕ → List (Form × List ℕ)
frame_in (Layout frame) = name frame ∷ []
frame_in (Room frame repetition) = name frame ∷ []
frame_in _ = []

-- the names in a query
abbrev pub names_in : Query (List ℕ) ℕ → List (Form × List ℕ)
names_in (OfRegister inventory) = []
names_in (OfVariant variant report) = name variant ∷ frame_in report
names_in (OfTwo variant from) = name variant ∷ name from ∷ []

-- the texts of a request that must have a form
unfoldable pub formed_in : Request → List (Form × List ℕ)
formed_in (request.OpenVariant variant begins) = name variant ∷ origin_in begins
formed_in (request.Release variant) = name variant ∷ []
formed_in (request.AddSupplier supplier key) = name supplier ∷ (form.Key, key) ∷ []
formed_in (request.SetKey supplier key) = name supplier ∷ (form.Key, key) ∷ []
formed_in (request.AddNode supplier node) = name supplier ∷ name node ∷ []
formed_in (request.Grant variant slot channel supplier node) = name variant ∷ name supplier ∷ name node ∷ []
formed_in (request.Revoke variant slot channel supplier) = name variant ∷ name supplier ∷ []
formed_in (request.AddFrame variant frame node) = name variant ∷ name frame ∷ name node ∷ []
formed_in (request.DropFrame variant frame) = name variant ∷ name frame ∷ []
formed_in (request.Place variant frame slot channels base repetition) = name variant ∷ name frame ∷ []
formed_in (request.Unplace variant frame slot channels base repetition) = name variant ∷ name frame ∷ []
formed_in (request.AddSignal variant frame signal start length order) = name variant ∷ name frame ∷ name signal ∷ []
formed_in (request.DropSignal variant frame signal) = name variant ∷ name frame ∷ name signal ∷ []
formed_in (request.Deliver variant (purpose.Import label) body) = name variant ∷ name label ∷ []
formed_in (request.Deliver variant _ body) = name variant ∷ []
formed_in (request.Query query) = names_in query

-- whether each of these texts has its form
abbrev pub have_forms : List (Form × List ℕ) → Bool
have_forms texts = list_all (λ text. has_form text.0 text.1) texts

-- whether there is a request, and each of its texts has its form
abbrev pub is_fine : Option Request → Bool
is_fine None = false
is_fine (Some request) = have_forms (formed_in request)

-- whether the bytes are a fine request
unfoldable pub is_fine_request : List ℕ → Bool
is_fine_request bytes = is_fine (request_of bytes)
