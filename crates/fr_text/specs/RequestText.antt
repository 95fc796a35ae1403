-- Request's text: the request that the bytes of a line are, an import too. They are one JSON
-- object, whose field `do` has the word of a form. Its fields are just those of the form.
use Rattle.std.specs.Prelude.{ℕ, Bool, true, false, List, [], ◌∷◌, ◌++◌, codes, Option, Some, None, if◌then◌else◌}
use Rattle.std.specs.Map.{lookup}
use Rattle.std.specs.Str.{bytes_eq}
use Rattle.serde_json.specs.Data.{Data, Members}
use Rattle.serde_json.specs.Find.{as_object}
use Rattle.fr_base.specs.Forms.{form_of}
use Rattle.fr_base.specs.QueryNames.{Question, name_of_field, query_with}
use Rattle.fr_base.specs.declared.beginning.Beginning.{Beginning}
use Rattle.fr_base.specs.declared.beginning.Beginning.TheVariants.{Empty, From, Flat}
use Rattle.fr_base.specs.declared.request.Request.{Request}
use Rattle.fr_base.specs.declared.request.Request.TheVariants.{OpenVariant, Release, AddSupplier, SetKey, AddNode, Grant, Revoke, AddFrame, DropFrame, Place, Unplace, AddSignal, DropSignal, Deliver, Query}
use Rattle.fr_base.specs.declared.delivery.Manner.{Manner}
use Rattle.fr_base.specs.declared.delivery.Manner.TheVariants as manner
use Rattle.fr_base.specs.declared.delivery.Purpose.TheVariants as purpose
use Rattle.fr_text.specs.Fields.{◌>>=◌, ◌>>◌, provided, value_of, has_just, word_of, text, text_or_null, flag, number}

-- the word of each request, and what the request is made of: the values of its fields
abbrev pub Arms : Type 0
Arms = List (List ℕ × (Members → Request))

-- what a new variant begins with: the rows of another, flat or not, or none
abbrev pub beginning : Option (List ℕ) → Bool → Beginning (List ℕ)
beginning None flat = Empty
beginning (Some from) flat = if flat then Flat from else From from

-- the integrator's
unfoldable pub integrators : Arms
integrators =
    (codes "open_variant", λ o. OpenVariant (text o (codes "variant")) (beginning (text_or_null o (codes "from")) (flag o (codes "flat"))))
    ∷ (codes "release", λ o. Release (text o (codes "variant")))
    ∷ (codes "add_supplier", λ o. AddSupplier (text o (codes "supplier")) (text o (codes "key")))
    ∷ (codes "set_key", λ o. SetKey (text o (codes "supplier")) (text o (codes "key")))
    ∷ (codes "add_node", λ o. AddNode (text o (codes "supplier")) (text o (codes "node")))
    ∷ (codes "grant", λ o. Grant (text o (codes "variant")) (number o (codes "slot")) (text o (codes "channel")) (text o (codes "supplier")) (text o (codes "node")))
    ∷ (codes "revoke", λ o. Revoke (text o (codes "variant")) (number o (codes "slot")) (text o (codes "channel")) (text o (codes "supplier")))
    ∷ []

-- a supplier's, on a frame
unfoldable pub of_frames : Arms
of_frames =
    (codes "add_frame", λ o. AddFrame (text o (codes "variant")) (text o (codes "frame")) (text o (codes "node")))
    ∷ (codes "drop_frame", λ o. DropFrame (text o (codes "variant")) (text o (codes "frame")))
    ∷ (codes "place", λ o. Place (text o (codes "variant")) (text o (codes "frame")) (number o (codes "slot")) (text o (codes "channels")) (number o (codes "base")) (number o (codes "repetition")))
    ∷ (codes "unplace", λ o. Unplace (text o (codes "variant")) (text o (codes "frame")) (number o (codes "slot")) (text o (codes "channels")) (number o (codes "base")) (number o (codes "repetition")))
    ∷ (codes "add_signal", λ o. AddSignal (text o (codes "variant")) (text o (codes "frame")) (text o (codes "signal")) (number o (codes "start")) (number o (codes "length")) (text o (codes "order")))
    ∷ (codes "drop_signal", λ o. DropSignal (text o (codes "variant")) (text o (codes "frame")) (text o (codes "signal")))
    ∷ []

-- how the rows of a file that is tried act: as a replacement, which may be whole, or else as an import
abbrev pub manner_of : Bool → Bool → Manner
manner_of true whole = manner.Replace whole
manner_of false whole = manner.Import

-- a supplier's, by a file
unfoldable pub of_files : Arms
of_files =
    (codes "import", λ o. Deliver (text o (codes "variant")) (purpose.Import (text o (codes "label"))) (text o (codes "body")))
    ∷ (codes "replace", λ o. Deliver (text o (codes "variant")) (purpose.Replacement (flag o (codes "whole"))) (text o (codes "body")))
    ∷ (codes "try", λ o. Deliver (text o (codes "variant")) (purpose.Trial (manner_of (flag o (codes "replace")) (flag o (codes "whole")))) (text o (codes "body")))
    ∷ (codes "propose", λ o. Deliver (text o (codes "variant")) (purpose.Proposal (flag o (codes "replace"))) (text o (codes "body")))
    ∷ []

-- what is asked, with the fields' values for its names and numbers
abbrev pub asked : Members → Question → Request
asked o question = Query (query_with (λ name. text o (name_of_field name)) (λ name. number o (name_of_field name)) question)

-- the request of this word among these, made of the fields
abbrev pub picked : Arms → List ℕ → Members → Option Request
picked arms word fields = do
  arm ← lookup (bytes_eq word) arms
  Some (arm fields)

-- the request of this word, made of the fields: of one that changes nothing its form says what is asked
abbrev pub made : Option Question → List ℕ → Members → Option Request
made (Some question) word fields = Some (asked fields question)
made None word fields = picked (integrators ++ of_frames ++ of_files) word fields

-- the request that the fields are
unfoldable pub request_in : Members → Option Request
request_in fields = do
  word ← word_of fields
  form ← form_of word
  provided (has_just form.fields fields)
  made form.asks word fields

-- the request that a value is
unfoldable pub request_from : Data → Option Request
request_from value = do
  fields ← as_object value
  request_in fields

-- the request that the bytes are, if they are a request
unfoldable pub request_of : List ℕ → Option Request
request_of bytes = do
  value ← value_of bytes
  request_from value
