-- Overview: for each part of the drawing a small picture, with the part's first slot, which leads
-- to the part. A drawing of one part has none.
use Rattle.std.specs.Prelude.{ℕ, nat_lt, List, [], ◌∷◌, ◌++◌, codes, decimal, length, Option, Some, None, if◌then◌else◌}
use Rattle.std.specs.List.{flat_map}
use Rattle.fr_picture.specs.declared.drawing.lane.Lane.{Lane}
use Rattle.fr_picture.specs.declared.texts.Fixed.TheVariants.{OverviewStart, OverviewEnd}
use Rattle.fr_picture.specs.Texts.{together, fixed_text}

-- the first slot of the part that begins here, if one does
abbrev pub start_of : Option ℕ → List ℕ
start_of None = []
start_of (Some first) = first ∷ []

-- the first slots of the parts
unfoldable pub starts_of : List Lane → List ℕ
starts_of lanes = flat_map (λ l. start_of l.place.opens) lanes

-- ---- its text

-- a small picture of a part
unfoldable pub thumbnail_text : ℕ → ℕ → List ℕ
thumbnail_text cycles first =
    together (codes "<a href=#p" ∷ decimal first ∷ codes "><svg role=none viewBox=\"0 0 138 " ∷ decimal cycles ∷ codes "\"><use href=#g" ∷ decimal first
    ∷ codes " /></svg>from " ∷ decimal first ∷ codes "</a>\n" ∷ [])

unfoldable pub thumbnails_text : ℕ → List ℕ → List ℕ
thumbnails_text cycles starts = flat_map (thumbnail_text cycles) starts

unfoldable pub overview_text : ℕ → List ℕ → List ℕ
overview_text cycles starts =
    if nat_lt 1 (length starts) then fixed_text OverviewStart ++ thumbnails_text cycles starts ++ fixed_text OverviewEnd else []
