-- Conditions: the tag of bytes, what the fields of one name list, and whether a condition on a tag is met.
use Rattle.std.specs.Prelude.{ℕ, ◌==◌, ◌||◌, not, Bool, List, ◌++◌, map, take, drop, codes, if◌then◌else◌}
use Rattle.std.specs.List.{flat_map, list_any, slice_split}
use Rattle.hex.specs.Hex.{encode_lower}
use Rattle.httparse.specs.Grammar.{trim_ows}
use Rattle.sha2.specs.Sha256.{sha256}
use Rattle.fr_base.specs.Names.{same_text}

-- the tag by a digest: its hexadecimal digits between quotes
abbrev pub quoted : List ℕ → List ℕ
quoted digest = codes "\"" ++ encode_lower digest ++ codes "\""

-- the tag of bytes, by their SHA-256
unfoldable pub tag_of : List ℕ → List ℕ
tag_of bytes = quoted (sha256 bytes)

-- the elements of a field's value: what stands between its commas, without the spaces and tabs round it
unfoldable pub elements : List ℕ → List (List ℕ)
elements value = map trim_ows (slice_split (λ b. b == 44) value)

-- an element without a `W/` before it, by which a tag is weak
abbrev pub without_weakness : List ℕ → List ℕ
without_weakness element = if same_text (take 2 element) (codes "W/") then drop 2 element else element

-- whether an element, read so, is the tag, or stands for every tag
abbrev pub means : (List ℕ → List ℕ) → List ℕ → List ℕ → Bool
means read tag element = same_text element (codes "*") || same_text (read element) tag

-- Whether an element of the fields with these values means the tag. The fields of a name are one list.
abbrev pub lists : (List ℕ → List ℕ) → List ℕ → List (List ℕ) → Bool
lists read tag values = list_any (means read tag) (flat_map elements values)

-- whether `if-none-match` is met, by the values of its fields: none lists the tag, weak or not
unfoldable pub none_matches : List ℕ → List (List ℕ) → Bool
none_matches tag values = not (lists without_weakness tag values)
