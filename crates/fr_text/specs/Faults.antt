-- Faults: why no value or no request is read.
use Rattle.std.specs.Prelude.{◌≡◌, ℕ, Bool, true, false, List, [], ◌∷◌, map, Some, None, Result, Ok, Err}
use Rattle.serde_json.specs.Data.{Data}
use Rattle.serde_json.specs.View.{view}
use Rattle.serde_json.specs.declared.value.Value.{Value}
use Rattle.fr_base.specs.declared.request.Request.{Request}
use Rattle.fr_text.specs.Fields.{value_of}
use Rattle.fr_text.specs.Flaws.{flaw_of, flaws_from}
use Rattle.fr_text.specs.RequestText.{request_from}
use Rattle.fr_text.specs.declared.fields.JsonFault.{JsonFault}
use Rattle.fr_text.specs.declared.fields.JsonFault.TheVariants as json
use Rattle.fr_text.specs.declared.request_text.RequestFault.{RequestFault}
use Rattle.fr_text.specs.declared.request_text.RequestFault.TheVariants as fault

-- whether the list is empty
abbrev pub are_none : {A : Type 0} → List A → Bool
are_none [] = true
are_none (_ ∷ _) = false

-- The value is the one that the bytes spell; or they spell none; or memory was wanting.
abbrev pub ReadsJson : List ℕ → Result Value JsonFault → Type 0
ReadsJson bytes (Ok value) = value_of bytes ≡ Some (view value)
ReadsJson bytes (Err json.NoMemory) = Unit {0}
ReadsJson bytes (Err json.NotUtf8) = value_of bytes ≡ None
ReadsJson bytes (Err (json.NotJson error)) = value_of bytes ≡ None

-- The request is the one that the value is; or it is none; or memory was wanting. Where fields have
-- faults, there is one at least, and they tell just the flaws of the fields.
abbrev pub ReadsRequest : Data → Result Request RequestFault → Type 0
ReadsRequest value (Ok request) = request_from value ≡ Some request
ReadsRequest value (Err fault.NoMemory) = Unit {0}
ReadsRequest value (Err fault.NoObject) = request_from value ≡ None
ReadsRequest value (Err (fault.NoRequest found)) = request_from value ≡ None
ReadsRequest value (Err (fault.OfFields form faults)) =
    (request_from value ≡ None) × (are_none faults.items ≡ false) × (flaws_from value ≡ Some (map flaw_of faults.items))
