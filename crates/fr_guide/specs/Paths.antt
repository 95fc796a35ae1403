-- Path: the parts of a request's path over HTTP. Which of them are names, numbers and words, as the
-- form of the path says. A path is fine that has one of these forms, with names that are names,
-- numbers that are numbers and words that are explained.
use Rattle.std.specs.Prelude.{ℕ, Bool, true, false, ◌==◌, ◌&&◌, ◌||◌, if◌then◌else◌, List, [], ◌∷◌, length, codes, find, Option, Some, None}
use Rattle.std.specs.List.{list_all, slice_split, zip}
use Rattle.std.specs.Result.{is_ok}
use Rattle.std.specs.Str.{bytes_eq}
use Rattle.fr_base.specs.Forms.{FormData, form_of}
use Rattle.fr_base.specs.ImportRows.{number}
use Rattle.fr_base.specs.Names.{is_name}
use Rattle.fr_base.specs.QueryNames.{Question}
use Rattle.fr_base.specs.declared.query.Query.TheVariants.{Variant as OfVariant}
use Rattle.fr_guide.specs.RefusalNumbers.{meant_word}
use Rattle.fr_guide.specs.Topics.{is_explained}

-- the parts of a path: what stands before, between and behind its slashes
unfoldable pub parts_of : List ℕ → List (List ℕ)
parts_of path = slice_split (λ b. b == 47) path

-- the form of a path below a variant
abbrev pub of_variant : List (List ℕ) → List (List ℕ)
of_variant form = codes "" ∷ codes "v1" ∷ codes "variants" ∷ codes "{variant}" ∷ form

-- the forms of paths, each by its parts: a word stands for itself, and in braces is what a name, a number or a word is of
unfoldable pub forms : List (List (List ℕ))
forms =
    (codes "" ∷ codes "" ∷ [])
    ∷ (codes "" ∷ codes "v1" ∷ codes "explanations" ∷ [])
    ∷ (codes "" ∷ codes "v1" ∷ codes "explanations" ∷ codes "{word}" ∷ [])
    ∷ (codes "" ∷ codes "v1" ∷ codes "checks" ∷ codes "rows" ∷ [])
    ∷ (codes "" ∷ codes "v1" ∷ codes "checks" ∷ codes "requests" ∷ [])
    ∷ (codes "" ∷ codes "v1" ∷ codes "commands" ∷ [])
    ∷ (codes "" ∷ codes "v1" ∷ codes "cluster" ∷ [])
    ∷ (codes "" ∷ codes "v1" ∷ codes "variants" ∷ [])
    ∷ (codes "" ∷ codes "v1" ∷ codes "nodes" ∷ [])
    ∷ of_variant (codes "imports" ∷ codes "{label}" ∷ [])
    ∷ of_variant (codes "since" ∷ codes "{from}" ∷ [])
    ∷ of_variant (codes "{report}" ∷ [])
    ∷ of_variant (codes "frames" ∷ codes "{frame}" ∷ codes "layout" ∷ [])
    ∷ of_variant (codes "frames" ∷ codes "{frame}" ∷ codes "room" ∷ codes "{repetition}" ∷ [])
    ∷ of_variant (codes "exports" ∷ codes "frames" ∷ codes "{part}" ∷ [])
    ∷ of_variant (codes "exports" ∷ codes "placements" ∷ codes "{part}" ∷ [])
    ∷ of_variant (codes "exports" ∷ codes "signals" ∷ codes "{part}" ∷ [])
    ∷ of_variant (codes "rows" ∷ codes "whole" ∷ [])
    ∷ of_variant (codes "tries" ∷ [])
    ∷ of_variant (codes "tries" ∷ codes "whole" ∷ [])
    ∷ of_variant (codes "proposals" ∷ [])
    ∷ of_variant (codes "picture" ∷ [])
    ∷ of_variant (codes "since" ∷ codes "{from}" ∷ codes "picture" ∷ [])
    ∷ []

-- whether a part of a form is in braces
abbrev pub is_hole : List ℕ → Bool
is_hole [] = false
is_hole (b ∷ part) = b == 123

-- whether a part in braces is a number
abbrev pub is_number : List ℕ → Bool
is_number part = bytes_eq part (codes "{repetition}") || bytes_eq part (codes "{part}")

-- whether a part in braces is a word that may be explained
abbrev pub is_word : List ℕ → Bool
is_word part = bytes_eq part (codes "{word}")

-- whether a report of a variant is asked for
abbrev pub is_of_variant : Option Question → Bool
is_of_variant (Some (OfVariant _ _)) = true
is_of_variant _ = false

-- whether a request of this form asks for a report of a variant, and names nothing else
abbrev pub asks_report : Option FormData → Bool
asks_report (Some form) = is_of_variant form.asks && (length form.fields == 1)
asks_report None = false

-- whether a text may stand for a part of a form, whatever name or number it is; for the word of a report only such a word may
abbrev pub stands : List ℕ × List ℕ → Bool
stands both = if bytes_eq both.0 (codes "{report}") then asks_report (form_of both.1) else is_hole both.0 || bytes_eq both.0 both.1

-- whether the path with these parts has this form
abbrev pub has_form : List (List ℕ) → List (List ℕ) → Bool
has_form texts form = (length form == length texts) && list_all stands (zip form texts)

-- whether a text is the name, the number or the word that a part of a form says
abbrev pub is_fine_part : List ℕ × List ℕ → Bool
is_fine_part both =
    if is_hole both.0 then (if is_number both.0 then is_ok (number both.1) else if is_word both.0 then is_explained (meant_word both.1) else is_name both.1) else true

-- whether the names and numbers of a path are, whose form is this; where it has no form, none is
abbrev pub are_fine_parts : List (List ℕ) → Option (List (List ℕ)) → Bool
are_fine_parts texts None = false
are_fine_parts texts (Some form) = list_all is_fine_part (zip form texts)

-- whether a path has one of the forms, with names, numbers and words that are such
unfoldable pub is_fine_path : List ℕ → Bool
is_fine_path path = are_fine_parts (parts_of path) (find (has_form (parts_of path)) forms)
