-- Shapes: the text of what a page has once: patterns, the cells of each repetition, a hatched lane, and a lane and a gap
-- that nobody holds.
use Rattle.std.specs.Prelude.{ℕ, ◌+◌, ◌*◌, ◌/◌, ◌%◌, ◌==◌, List, [], ◌∷◌, ◌++◌, codes, decimal, if◌then◌else◌}
use Rattle.std.specs.List.{flat_map, range_with_len}
use Rattle.fr_picture.specs.declared.drawing.columns.Scale.{Scale}
use Rattle.fr_picture.specs.declared.texts.Fixed.TheVariants.{FreeStart, GroupEnd, OverStart, Patterns}
use Rattle.fr_picture.specs.Kinds.{box_text}
use Rattle.fr_picture.specs.Texts.{together, fixed_text}

-- two lines from corner to corner
unfoldable pub cross_text : ℕ → ℕ → List ℕ
cross_text width cycles =
    together (codes "l" ∷ decimal width ∷ codes " " ∷ decimal cycles ∷ codes "M" ∷ decimal width ∷ codes " 0l-" ∷ decimal width ∷ codes " " ∷ decimal cycles ∷ codes "\"/>" ∷ [])

-- a lane with a cross
unfoldable pub crossed_text : ℕ → ℕ → List ℕ
crossed_text width cycles =
    fixed_text FreeStart ++ box_text 0 width cycles ++ cross_text width cycles

-- a lane and a gap that nobody holds, and the beginning of a granted lane
unfoldable pub empties_text : ℕ → ℕ → List ℕ
empties_text width cycles =
    crossed_text width cycles ++ together (codes "<rect id=gap width=1 height=" ∷ decimal cycles
    ∷ codes " />\n<g id=held><rect width=" ∷ decimal width ∷ codes " height=" ∷ decimal cycles ∷ codes " /><path d=\"" ∷ [])

-- a line across the lane's cell in this cycle
unfoldable pub hatch_text : ℕ → ℕ → List ℕ
hatch_text width cycle = together (codes "M0 " ∷ decimal (cycle + 1) ∷ codes "l" ∷ decimal width ∷ codes "-1" ∷ [])

unfoldable pub hatches_text : ℕ → ℕ → List ℕ
hatches_text width cycles = flat_map (hatch_text width) (range_with_len 0 cycles)

unfoldable pub held_text : Scale → List ℕ
held_text scale = hatches_text scale.width scale.cycles ++ fixed_text GroupEnd

unfoldable pub set_start : ℕ → List ℕ
set_start repetition = together (codes "<g id=" ∷ decimal repetition ∷ codes "><path d=\"" ∷ [])

-- so many cells, one in each repetition
unfoldable pub repeated_text : ℕ → ℕ → ℕ → List ℕ
repeated_text width repetition count = flat_map (λ k. box_text (k * repetition) width 1) (range_with_len 0 count)

-- the cells of base 0 and this repetition: where it is 1, one rectangle of all cycles
unfoldable pub rows_text : Scale → ℕ → List ℕ
rows_text scale repetition =
    if repetition == 1 then box_text 0 scale.width scale.cycles else repeated_text scale.width repetition (scale.cycles / repetition)

-- the shape of this repetition, and over it that of a supplier's pattern, if it divides the count of cycles
unfoldable pub set_path : Scale → ℕ → List ℕ
set_path scale repetition =
    if scale.cycles % repetition == 0 then set_start repetition ++ rows_text scale repetition ++ fixed_text OverStart ++ rows_text scale repetition ++ fixed_text GroupEnd
    else []

unfoldable pub sets_text : Scale → List ℕ
sets_text scale = flat_map (λ index. set_path scale (index + 1)) (range_with_len 0 scale.cycles)

unfoldable pub shapes_text : Scale → List ℕ
shapes_text scale = fixed_text Patterns ++ empties_text scale.width scale.cycles ++ held_text scale ++ sets_text scale
