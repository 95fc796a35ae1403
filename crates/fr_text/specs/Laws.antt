-- Law: what is written for a request is read back as that request.
use Rattle.std.specs.Prelude.{◌≡◌, ℕ, ◌^◌, Bool, true, false, List, [], ◌∷◌, codes, nat_lt, Option, Some, None, IsTrue}
use Rattle.std.specs.List.{list_all}
use Rattle.std.specs.Str.{is_utf8}
use Rattle.serde_json.specs.Data.{Data, Members, no_members, boolean, string, number, unsigned, null, object, put}
use Rattle.serde_json.specs.Read.{read}
use Rattle.fr_base.specs.QueryNames.{word_of_query}
use Rattle.fr_base.specs.declared.beginning.Beginning.{Beginning}
use Rattle.fr_base.specs.declared.beginning.Beginning.TheVariants.{Empty, From, Flat}
use Rattle.fr_base.specs.declared.request.Request.{Request}
use Rattle.fr_base.specs.declared.request.Request.TheVariants.{OpenVariant, Release, AddSupplier, SetKey, AddNode, Grant, Revoke, AddFrame, DropFrame, Place, Unplace, AddSignal, DropSignal, Deliver, Query}
use Rattle.fr_base.specs.declared.delivery.Manner.{Manner}
use Rattle.fr_base.specs.declared.delivery.Manner.TheVariants as manner
use Rattle.fr_base.specs.declared.delivery.Purpose.TheVariants as purpose
use Rattle.fr_base.specs.declared.query.Query as asked
use Rattle.fr_base.specs.declared.query.Query.TheVariants.{Register as OfRegister, Variant as OfVariant, Difference as OfTwo}
use Rattle.fr_base.specs.declared.report.Report.{Report}
use Rattle.fr_base.specs.declared.report.Report.TheVariants.{Layout, Room, Export}
use Rattle.fr_text.specs.RequestText.{request_of}

-- an object's fields, each a name and its value
abbrev pub fields : List (List ℕ × Data) → Members
fields [] = no_members
fields (field ∷ others) = put field.0 field.1 (fields others)

-- a number's value
abbrev pub count : ℕ → Data
count n = number (unsigned n)

-- a text's value, or null
abbrev pub text_or_null : Option (List ℕ) → Data
text_or_null None = null
text_or_null (Some text) = string text

-- the name of the variant whose rows a new one begins with, if there is one
abbrev pub origin_of : Beginning (List ℕ) → Option (List ℕ)
origin_of Empty = None
origin_of (From parent) = Some parent
origin_of (Flat from) = Some from

-- whether a new variant is opened flat
abbrev pub is_flat : Beginning (List ℕ) → Bool
is_flat (Flat from) = true
is_flat _ = false

-- whether a file that is tried is tried as a replacement
abbrev pub is_replacement : Manner → Bool
is_replacement manner.Import = false
is_replacement (manner.Replace whole) = true

-- and as a whole one
abbrev pub is_whole : Manner → Bool
is_whole manner.Import = false
is_whole (manner.Replace whole) = whole

-- the fields that a report has of its own: the name of a frame, and a number
abbrev pub report_fields : Report (List ℕ) ℕ → List (List ℕ × Data)
report_fields (Layout f) = (codes "frame", string f) ∷ []
report_fields (Room f r) = (codes "frame", string f) ∷ (codes "repetition", count r) ∷ []
report_fields (Export header k) = (codes "part", count k) ∷ []
report_fields _ = []

-- the fields of a query
abbrev pub query_fields : asked.Query (List ℕ) ℕ → List (List ℕ × Data)
query_fields (OfRegister held) = []
query_fields (OfVariant v report) = (codes "variant", string v) ∷ report_fields report
query_fields (OfTwo v from) = (codes "variant", string v) ∷ (codes "from", string from) ∷ []

-- the fields that a request is written with
unfoldable pub fields_of : Request → Members
fields_of (OpenVariant v begins) = fields ((codes "do", string (codes "open_variant")) ∷ (codes "variant", string v) ∷ (codes "from", text_or_null (origin_of begins)) ∷ (codes "flat", boolean (is_flat begins)) ∷ [])
fields_of (Release v) = fields ((codes "do", string (codes "release")) ∷ (codes "variant", string v) ∷ [])
fields_of (AddSupplier s key) = fields ((codes "do", string (codes "add_supplier")) ∷ (codes "supplier", string s) ∷ (codes "key", string key) ∷ [])
fields_of (SetKey s key) = fields ((codes "do", string (codes "set_key")) ∷ (codes "supplier", string s) ∷ (codes "key", string key) ∷ [])
fields_of (AddNode s n) = fields ((codes "do", string (codes "add_node")) ∷ (codes "supplier", string s) ∷ (codes "node", string n) ∷ [])
fields_of (Grant v k c s n) = fields ((codes "do", string (codes "grant")) ∷ (codes "variant", string v) ∷ (codes "slot", count k) ∷ (codes "channel", string c) ∷ (codes "supplier", string s) ∷ (codes "node", string n) ∷ [])
fields_of (Revoke v k c s) = fields ((codes "do", string (codes "revoke")) ∷ (codes "variant", string v) ∷ (codes "slot", count k) ∷ (codes "channel", string c) ∷ (codes "supplier", string s) ∷ [])
fields_of (AddFrame v f n) = fields ((codes "do", string (codes "add_frame")) ∷ (codes "variant", string v) ∷ (codes "frame", string f) ∷ (codes "node", string n) ∷ [])
fields_of (DropFrame v f) = fields ((codes "do", string (codes "drop_frame")) ∷ (codes "variant", string v) ∷ (codes "frame", string f) ∷ [])
fields_of (Place v f k c b r) = fields ((codes "do", string (codes "place")) ∷ (codes "variant", string v) ∷ (codes "frame", string f) ∷ (codes "slot", count k) ∷ (codes "channels", string c) ∷ (codes "base", count b) ∷ (codes "repetition", count r) ∷ [])
fields_of (Unplace v f k c b r) = fields ((codes "do", string (codes "unplace")) ∷ (codes "variant", string v) ∷ (codes "frame", string f) ∷ (codes "slot", count k) ∷ (codes "channels", string c) ∷ (codes "base", count b) ∷ (codes "repetition", count r) ∷ [])
fields_of (AddSignal v f x start length order) = fields ((codes "do", string (codes "add_signal")) ∷ (codes "variant", string v) ∷ (codes "frame", string f) ∷ (codes "signal", string x) ∷ (codes "start", count start) ∷ (codes "length", count length) ∷ (codes "order", string order) ∷ [])
fields_of (DropSignal v f x) = fields ((codes "do", string (codes "drop_signal")) ∷ (codes "variant", string v) ∷ (codes "frame", string f) ∷ (codes "signal", string x) ∷ [])
fields_of (Deliver v (purpose.Import label) body) = fields ((codes "do", string (codes "import")) ∷ (codes "variant", string v) ∷ (codes "label", string label) ∷ (codes "body", string body) ∷ [])
fields_of (Deliver v (purpose.Replacement whole) body) = fields ((codes "do", string (codes "replace")) ∷ (codes "variant", string v) ∷ (codes "body", string body) ∷ (codes "whole", boolean whole) ∷ [])
fields_of (Deliver v (purpose.Trial how) body) = fields ((codes "do", string (codes "try")) ∷ (codes "variant", string v) ∷ (codes "body", string body) ∷ (codes "replace", boolean (is_replacement how)) ∷ (codes "whole", boolean (is_whole how)) ∷ [])
fields_of (Deliver v (purpose.Proposal replace) body) = fields ((codes "do", string (codes "propose")) ∷ (codes "variant", string v) ∷ (codes "body", string body) ∷ (codes "replace", boolean replace) ∷ [])
fields_of (Query query) = fields ((codes "do", string (word_of_query query)) ∷ query_fields query)

-- a query's numbers
abbrev pub query_numbers : asked.Query (List ℕ) ℕ → List ℕ
query_numbers (OfVariant v (Room f r)) = r ∷ []
query_numbers (OfVariant v (Export header k)) = k ∷ []
query_numbers _ = []

-- a request's numbers
abbrev pub numbers_of : Request → List ℕ
numbers_of (Grant v k c s n) = k ∷ []
numbers_of (Revoke v k c s) = k ∷ []
numbers_of (Place v f k c b r) = k ∷ b ∷ r ∷ []
numbers_of (Unplace v f k c b r) = k ∷ b ∷ r ∷ []
numbers_of (AddSignal v f x start length order) = start ∷ length ∷ []
numbers_of (Query query) = query_numbers query
numbers_of _ = []

-- A text that says in JSON what is written for a request is read as that request, if the request's
-- numbers are below 2 ^ 32.
abbrev pub WrittenIsReadBack : Type 0
WrittenIsReadBack = (bytes : List ℕ) (request : Request) → IsTrue (is_utf8 bytes) → read bytes ≡ Some (object (fields_of request))
    → IsTrue (list_all (λ n. nat_lt n (2 ^ 32)) (numbers_of request)) → request_of bytes ≡ Some request
