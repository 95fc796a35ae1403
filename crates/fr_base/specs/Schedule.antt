-- Schedule: frames fill cells in turn, and in a cell is the first that has it. The first taken cell of a placement is
-- the first of its cells, by cycle, slot and channel, that is filled.
use Rattle.std.specs.Prelude.{List, [], ◌∷◌, Option, Some, None, option_map, if◌then◌else◌}
use Rattle.std.specs.List.{filter_map}
use Rattle.fr_base.specs.Cells.{Cell, has_cell}
use Rattle.fr_base.specs.declared.placement.Placement.{Placement}

-- Owners and their placements fill cells in turn: each fills those of its cells that are still
-- empty. So the first sender whose placement has a cell is sent in it.
unfoldable pub fill : {O : Type 0} → List (O × Placement) → Cell → Option O
fill [] c = None
fill (e ∷ es) c = if has_cell e.1 c then Some e.0 else fill es c

-- the first cell of the list that is filled, with its sender
unfoldable pub first_taken : {O : Type 0} → (Cell → Option O) → List Cell → Option (Cell × O)
first_taken filled [] = None
first_taken filled (c ∷ cs) = found c (filled c) (first_taken filled cs)
  where
    found : {O : Type 0} → Cell → Option O → Option (Cell × O) → Option (Cell × O)
    found c (Some o) later = Some (c, o)
    found c None later = later

-- the cells of the list that are filled, with their owners
unfoldable pub entries : {O : Type 0} → (Cell → Option O) → List Cell → List (Cell × O)
entries filled cells = filter_map (λ c. option_map (λ o. (c, o)) (filled c)) cells
